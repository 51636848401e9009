-- Text put after text: what two calls put is what one would have put. Assumes nothing.
use mathlib.Core.List.{List, [], ◌∷◌, ◌++◌, append_assoc, append-nil}
use mathlib.Core.Path.{◌≡◌, refl, sym, ap, ◌∙◌}
use Prim.Native.Nat.{ℕ, zero, suc, ◌+◌, ◌-◌, ◌≤◌, min}
use native.Mathlib.Omega.{arith}
use lib.ListN.{length, take, drop, length-append, length-drop}
use lib.Seq.{take_all, length-take-le, take-append-add, take-append-le}
use Rattle.std.proofs.lemmas.List.{length-take, take_more}
use Rattle.notation.specs.Overlay.{laid, laid_at}
use Rattle.notation.proofs.Overlay.{at_start}
use Rattle.std.proofs.Common.{slice_range}
use borrow.Rule.Slice.PartMut.{put_mid, post_of}
use Rattle.text.specs.Text.{appended, place_after, Holds}
use Rattle.text.proofs.Holds.{place_min, laid-length}

-- the first k of two lists: all that the first has of them, and then so many of the second
take-two : (k j : ℕ) (xs ys : List ℕ) → j ≡ k - length xs → take k xs ++ take j ys ≡ take k (xs ++ ys)
take-two zero zero [] ys e = refl
take-two zero (suc j) xs ys e = absurd (omega (arith, e))
take-two (suc k) j [] ys e = let all : j ≡ suc k = omega (arith, e) in ap (λ (n : ℕ). take n ys) all
take-two zero zero (x ∷ xs) ys e = refl
take-two (suc k) j (x ∷ xs) ys e = ap (λ (l : List ℕ). x ∷ l) (take-two k j xs ys (omega (arith, e)))

take-none : (k : ℕ) → take {A = ℕ} k [] ≡ []
take-none zero = refl
take-none (suc k) = refl

-- nothing put
pub appended-none : (places : ℕ) (text : List ℕ) → appended places text [] ≡ text
unfolding appended
appended-none places text = ap (λ (l : List ℕ). text ++ l) (take-none (places - length text)) ∙ append-nil text

-- a text, and another after it
pub appended-appended : (places : ℕ) (text xs ys : List ℕ) → appended places (appended places text xs) ys ≡ appended places text (xs ++ ys)
unfolding appended
appended-appended places text xs ys =
    let k = places - length text in
    let room : places - length (text ++ take k xs) ≡ k - length xs = omega (arith, length-append text (take k xs), length-take k xs) in
    append_assoc text (take k xs) (take (places - length (text ++ take k xs)) ys)
    ∙ ap (λ (l : List ℕ). text ++ l) (take-two k _ xs ys room)

-- a text that has room stands whole
pub appended-whole : (places : ℕ) (xs : List ℕ) → length xs ≤ places → appended places [] xs ≡ xs
unfolding appended
appended-whole places xs h = take_all (places - 0) xs (omega (arith, h))

-- what is left of memory, once bytes were laid over it
take-laid : (k : ℕ) (xs lent : List ℕ) → k ≡ min (length xs) (length lent) → take k (laid xs lent) ≡ take (length lent) xs
unfolding laid
take-laid zero [] lent e = sym (take-none (length lent))
take-laid (suc k) [] lent e = absurd (omega (arith, e))
take-laid zero (x ∷ xs) [] e = refl
take-laid (suc k) (x ∷ xs) [] e = absurd (omega (arith, e))
take-laid zero (x ∷ xs) (y ∷ lent) e = absurd (omega (arith, e))
take-laid (suc k) (x ∷ xs) (y ∷ lent) e = ap (λ (l : List ℕ). x ∷ l) (take-laid k xs lent (omega (arith, e)))

-- What is put into fixed memory as into lent memory, at the end of the text that stands there: that text, and the other after it.
module _ (places len : ℕ) (xs bytes : List ℕ) (all : length bytes ≡ places) (fits : len ≤ places) where
  pub put_after : take (place_after len (length xs) (length bytes)) (laid_at len xs bytes) ≡ appended places (take len bytes) xs
  unfolding laid_at appended
  put_after =
      let next = place_after len (length xs) (length bytes) in
      let more = next - len in
      let end : next ≡ min (len + length xs) places = omega (arith, place_min len (length xs) (length bytes) (omega (arith, all, fits)), all) in
      let before : length (take len bytes) ≡ len = length-take-le len bytes (omega (arith, all, fits)) in
      let rest : length (drop len bytes) ≡ places - len = omega (arith, length-drop len bytes, all) in
      let parts : next ≡ length (take len bytes) + more = omega (arith, end, before, fits) in
      ap (λ (n : ℕ). take n (take len bytes ++ laid xs (drop len bytes))) parts
      ∙ take-append-add (take len bytes) (laid xs (drop len bytes)) more
      ∙ ap (λ (l : List ℕ). take len bytes ++ l) (take-laid more xs (drop len bytes) (omega (arith, end, rest, fits)))
      ∙ ap (λ (n : ℕ). take len bytes ++ take n xs) (omega (arith, rest, before))

pub put_within : (len n room : ℕ) → len ≤ room → place_after len n room ≤ room
put_within len n room h = omega (arith, place_min len n room h)

-- The same where what is left of the memory is lent, as a part of its own.
pub put_rest : (places len : ℕ) (xs bytes : List ℕ) {rest : List ℕ} {more : ℕ} → length bytes ≡ places → len ≤ places →
    Holds 0 xs (slice_range bytes len (length bytes)) rest more →
    take (len + more) (put_mid len (length bytes - len) bytes rest) ≡ appended places (take len bytes) xs
unfolding appended
put_rest places len xs bytes {rest} {more} all fits put =
    let left = drop len bytes in
    let beyond = post_of len (length bytes - len) bytes in
    let before : length (take len bytes) ≡ len = length-take-le len bytes (omega (arith, all, fits)) in
    let lent : slice_range bytes len (length bytes) ≡ left = take_all (length bytes - len) left (omega (arith, length-drop len bytes)) in
    let room : length left ≡ places - length (take len bytes) = omega (arith, length-drop len bytes, all, before) in
    let over : rest ≡ laid xs left = put.0 ∙ at_start xs _ ∙ ap (laid xs) lent in
    let size : more ≡ min (length xs) (length left) =
    omega (arith, put.1, place_min 0 (length xs) (length (slice_range bytes len (length bytes))) (omega arith), ap length lent) in
    let within : more ≤ length rest = omega (arith, size, ap length over, laid-length xs left) in
    ap (λ (n : ℕ). take (n + more) (take len bytes ++ (rest ++ beyond))) (sym before)
    ∙ take-append-add (take len bytes) (rest ++ beyond) more
    ∙ ap (λ (l : List ℕ). take len bytes ++ l) (take-append-le more rest beyond within ∙ ap (take more) over ∙ take-laid more xs left size)
    ∙ ap (λ (n : ℕ). take len bytes ++ take n xs) room

-- what two calls promise, as one: for a text of many parts
pub chain : (places : ℕ) (xs ys first : List ℕ) {second third : List ℕ} →
    second ≡ appended places first xs → third ≡ appended places second ys → third ≡ appended places first (xs ++ ys)
chain places xs ys first h k = k ∙ ap (λ (l : List ℕ). appended places l ys) h ∙ appended-appended places first xs ys

-- what a function that puts text after text needs
pub ruleset puts = (appended-none, appended-appended, take_more)

-- what a function that puts into fixed memory as into lent memory needs
pub ruleset as_lent = (put_after, put_within)
