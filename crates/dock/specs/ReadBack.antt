-- What one call leaves in the state is what the next finds there, calls one after the other are the port's steps, and bytes are handed up once. The proofs are
-- in proofs/ReadBack.antt.
use Rattle.std.specs.Prelude.{false, List, [], ◌∷◌, ◌≡◌, ℕ, ◌≤◌, eqb, length}
use Rattle.dock.specs.Calls.{next_call, give_up_call, take_call}
use Rattle.dock.specs.StateBytes.{bytes_of, port_of}
use Rattle.notation.specs.Overlay.{laid}
use Rattle.port.specs.Port.{Port, after_all}

-- any port, its data and bytes read back 68 places each, over whatever the state's bytes held
abbrev pub ReadBack : Type 0
ReadBack = (p : Port) (m : List ℕ) → length p.payload ≡ 68 → length p.fetched ≡ 68 → 148 ≤ length m → port_of (laid (bytes_of p) m) ≡ p

-- the state after `perlovasta_next` with these values, one after the other
unfoldable pub state_after : List ℕ → List ℕ → List ℕ
state_after m [] = m
state_after m (value ∷ values) = state_after (laid (next_call m value).state m) values

abbrev pub CallsInTurn : Type 0
CallsInTurn = (m values : List ℕ) → 148 ≤ length m → port_of (state_after m values) ≡ after_all (port_of m) values

-- what a board can do after it has taken the bytes, short of a start or a recovery
pub data Between : Type 0 where
  goes_on : (value : ℕ) → Between
  gives_up : Between
  takes_again : (room : ℕ) → Between

-- the state after it
unfoldable pub state_between : List ℕ → Between → List ℕ
state_between m (goes_on value) = laid (next_call m value).state m
state_between m gives_up = laid (give_up_call m).state m
state_between m (takes_again room) = laid (take_call m room).state m

unfoldable pub state_through : List ℕ → List Between → List ℕ
state_through m [] = m
state_through m (x ∷ xs) = state_through (state_between m x) xs

-- bytes that were handed up are handed up once: whatever is done after it, a take is not answered 0, and hands up nothing
abbrev pub TakenOnce : Type 0
TakenOnce = (m : List ℕ) (xs : List Between) (room again : ℕ) → 148 ≤ length m → (take_call m room).answer ≡ 0 →
    let after = state_through (laid (take_call m room).state m) xs in
    (eqb (take_call after again).answer 0 ≡ false) × ((take_call after again).handed ≡ [])
