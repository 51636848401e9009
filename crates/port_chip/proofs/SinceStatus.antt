-- What passed since a status was read: these bytes read, and these exchanges after them. Assumes nothing.
use mathlib.Core.Bool.{true}
use mathlib.Core.List.{List, [], ◌∷◌, ◌++◌, append_assoc, append-nil}
use mathlib.Core.Path.{◌≡◌, refl, ap, subst, ◌∙◌}
use Prim.Native.Nat.{ℕ}
use Rattle.address.specs.declared.number.Direction.TheVariants as direction
use Rattle.address.specs.declared.number.Direction.{Direction}
use Rattle.port.specs.Look.{still_control}
use Rattle.port.specs.declared.ask.Ask.TheVariants.{Write, Read}
use Rattle.port.specs.declared.ask.Ask.{Ask}
use Rattle.port_chip.specs.AnyChip.{is_look, AllLook, reads_of, done_status}
use Rattle.port_chip.specs.Passed.{Exchange, ◌gave◌}

pub record SinceStatus (status : ℕ) (sofar : List Exchange) (bytes : List ℕ) (later : List Exchange) : Type 0 where
  pub before : List Exchange
  pub made_up : sofar ≡ before ++ ((Read 0 gave status) ∷ (reads_of bytes ++ later))

-- one look at I2CCON, which showed ENSIO 1 and SI 1
pub record SeenStill (exchanges : List Exchange) : Type 0 where
  pub rechecked : ℕ
  pub still : still_control rechecked ≡ true
  pub one : exchanges ≡ (Read 3 gave rechecked) ∷ []

-- what passed between the bytes and 50h: in a read that look
abbrev pub Checked : Direction → List Exchange → Type 0
Checked direction.Write exchanges = Unit {0}
Checked direction.Read exchanges = SeenStill exchanges

pub checked_so : (d : Direction) (value : ℕ) → still_control value ≡ true → Checked d ((Read 3 gave value) ∷ [])
checked_so direction.Write value e = tt
checked_so direction.Read value e = record { rechecked = value; still = e; one = refl }

-- the bytes read, and that look: 50h is next
pub record AllRead (d : Direction) (sofar : List Exchange) (bytes : List ℕ) : Type 0 where
  pub look : List Exchange
  pub checked : Checked d look
  pub since : SinceStatus (done_status d) sofar bytes look

-- 50h written, and since then looks alone
pub record StopAsked (d : Direction) (sofar : List Exchange) (bytes : List ℕ) : Type 0 where
  pub look : List Exchange
  pub checked : Checked d look
  pub heard : ℕ
  pub looks : List Exchange
  pub since : SinceStatus (done_status d) sofar bytes (look ++ ((Write 3 0x50 gave heard) ∷ looks))
  pub all_look : AllLook looks

reads_snoc : (bytes : List ℕ) (value : ℕ) → reads_of (bytes ++ (value ∷ [])) ≡ reads_of bytes ++ ((Read 1 gave value) ∷ [])
reads_snoc [] value = refl
reads_snoc (x ∷ xs) value = ap {B = List Exchange} (λ later. (Read 1 gave x) ∷ later) (reads_snoc xs value)

looks_snoc : (looks : List Exchange) (x : Exchange) → AllLook looks → is_look x.asked ≡ true → AllLook (looks ++ (x ∷ []))
looks_snoc [] x all e = (e, tt)
looks_snoc (y ∷ ys) x all e = (all.0, looks_snoc ys x all.1 e)

module _ {status : ℕ} {sofar : List Exchange} {bytes : List ℕ} where
  -- one exchange more
  pub and_then : {later : List Exchange} → SinceStatus status sofar bytes later → (x : Exchange) →
      SinceStatus status (sofar ++ (x ∷ [])) bytes (later ++ (x ∷ []))
  and_then {later} s x = record {
    before = s.before;
    made_up = ap (λ (xs : List Exchange). xs ++ (x ∷ [])) s.made_up ∙ simp append_assoc;
  }

  -- one byte more
  pub one_byte : SinceStatus status sofar bytes [] → (value : ℕ) → SinceStatus status (sofar ++ ((Read 1 gave value) ∷ [])) (bytes ++ (value ∷ [])) []
  one_byte s value = record {
    before = s.before;
    made_up = ap (λ (xs : List Exchange). xs ++ ((Read 1 gave value) ∷ [])) s.made_up ∙ simp (append_assoc, append-nil, reads_snoc);
  }

module _ {d : Direction} {sofar : List Exchange} {bytes : List ℕ} where
  -- 50h is written
  pub stop_asked : AllRead d sofar bytes → (value : ℕ) → StopAsked d (sofar ++ ((Write 3 0x50 gave value) ∷ [])) bytes
  stop_asked r value = record {
    look = r.look;
    checked = r.checked;
    heard = value;
    looks = [];
    since = and_then r.since (Write 3 0x50 gave value);
    all_look = tt;
  }

  -- one look more
  pub look-more : StopAsked d sofar bytes → (asked : Ask) (value : ℕ) → is_look asked ≡ true → StopAsked d (sofar ++ ((asked gave value) ∷ [])) bytes
  look-more s asked value e = record {
    look = s.look;
    checked = s.checked;
    heard = s.heard;
    looks = s.looks ++ ((asked gave value) ∷ []);
    since = subst (λ (xs : List Exchange). SinceStatus (done_status d) (sofar ++ ((asked gave value) ∷ [])) bytes xs)
        (append_assoc s.look _ _) (and_then s.since (asked gave value));
    all_look = looks_snoc s.looks (asked gave value) s.all_look e;
  }
