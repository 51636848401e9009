-- Words, numbers and bytes as text, where they stand in lent memory, and what memory of a fixed size holds of them.
use Rattle.std.specs.Prelude.{List, [], ◌∷◌, ◌++◌, ◌≡◌, ℕ, zero, suc, ◌+◌, ◌-◌, ◌/◌, ◌%◌, ltb, length, take, codes}
use Rattle.notation.specs.Choice.{when◌then◌else◌}
use Rattle.notation.specs.Overlay.{laid_at}

-- a digit: 0 to 9, A to F
unfoldable pub digit : ℕ → ℕ
digit n = when ltb n 10 then 48 + n else 55 + n

-- a byte in hexadecimal, two digits in upper case
unfoldable pub hex_of : ℕ → List ℕ
hex_of byte = digit (byte / 16) ∷ digit (byte % 16) ∷ []

-- a number in decimal, of at most so many digits
unfoldable pub decimal_of : ℕ → ℕ → List ℕ
decimal_of zero n = []
decimal_of (suc places) n = when ltb n 10 then digit n ∷ [] else decimal_of places (n / 10) ++ (digit (n % 10) ∷ [])

-- bytes in hexadecimal, a space before each
unfoldable pub listed : List ℕ → List ℕ
listed [] = []
listed (byte ∷ bytes) = codes " " ++ (hex_of byte ++ listed bytes)

-- the place after so many bytes more, at most the end of memory of this room; a place past the end stays
unfoldable pub place_after : ℕ → ℕ → ℕ → ℕ
place_after at more room =
    when ltb (at + more) room then at + more
    else when ltb at room then room
    else at

-- What every function on lent memory promises: from place `at` on the memory holds the text, as far as it has room, its rest is as it
-- was, and the result is the place after the text.
abbrev pub Holds : ℕ → List ℕ → List ℕ → List ℕ → ℕ → Type 0
Holds at text before after next = (after ≡ laid_at at text before) × (next ≡ place_after at (length text) (length before))

-- a text in memory of so many places, and after it another as far as it has room
unfoldable pub appended : ℕ → List ℕ → List ℕ → List ℕ
appended places text more = text ++ take (places - length text) more
