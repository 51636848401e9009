-- What holds of a job between two pairs, by the turn that the controller is in: the invariant of a single run. It speaks of no table.
-- Assumes nothing.
use mathlib.Core.Bool.{true, false}
use mathlib.Core.List.{List, [], ◌∷◌, ◌++◌}
use mathlib.Core.Path.{◌≡◌, refl, sym, ap, ◌∙◌}
use Prim.Native.Nat.{ℕ, suc, ◌+◌, ◌%◌, ◌/◌, ◌≤◌, ◌<◌}
use native.Mathlib.Omega.{arith}
use borrow.Author.Tests.{ltb-true, eq-eqb}
use lib.Dec.{eqb}
use lib.ListN.{length, take}
use Rattle.address.specs.Number.{bit_of, byte_of}
use Rattle.address.specs.declared.number.Direction.TheVariants.{Write, Read}
use Rattle.address.specs.declared.number.Direction.{Direction}
use Rattle.answer.specs.Ending.{number_of}
use Rattle.control.specs.Turn.{free, busy, listen, address, send, receive, stopping, data_turns, kind}
use Rattle.controller.proofs.SoundParts.{parts}
use Rattle.controller.specs.Record.{place, byte_count, sound, move_sound}
use Rattle.controller.specs.declared.record.Controller.{Controller}
use Rattle.notation.proofs.Among.{within, clash}
use Rattle.notation.proofs.Cases.{when-true, and_left}
use Rattle.notation.specs.Choice.{among}
use Rattle.service.specs.JobSteps.{count_of}
use Rattle.service.specs.declared.job.Job.{Job}
use Rattle.service.specs.declared.progress.Progress.{Progress}

-- the turn is one of these
abbrev pub In : Progress → List ℕ → Type 0
In p turns = among (kind p.controller.turn) turns ≡ true

-- the turns of a job between two pairs; in the first four the address byte is not answered yet
abbrev pub waiting_turns : List ℕ
waiting_turns = free ∷ busy ∷ listen ∷ []

abbrev pub early_turns : List ℕ
early_turns = free ∷ busy ∷ listen ∷ address ∷ []

abbrev pub job_turns : List ℕ
job_turns = free ∷ busy ∷ listen ∷ address ∷ send ∷ receive ∷ stopping ∷ []

pub write_no_read : {A : Type 0} (d : Direction) → d ≡ Write → d ≡ Read → A
unfolding bit_of
write_no_read d w r = absurd (zero_one (ap bit_of (sym w ∙ r)))
  where
    zero_one : ◌≡◌ {A = ℕ} 0 1 → ⊥
    zero_one e = omega (arith, e)

-- I2CCOUNT as a job sets it: BC is n, and LB is set for a read
pub count-below : (d : Direction) (n : ℕ) → n ≤ 68 → count_of d n % 128 ≡ n
unfolding count_of
count-below Write n h = omega (arith, h)
count-below Read n h = omega (arith, h)

pub count_top : (d : Direction) (n : ℕ) → d ≡ Read → eqb (count_of d n / 128) 1 ≡ true
unfolding count_of
count_top Write n r = write_no_read Write refl r
count_top Read n r = eq-eqb ((128 + n % 128) / 128) 1 (omega arith)

-- how many bytes a job sends at most: the address byte, and a write's data
abbrev pub limit : Direction → ℕ → ℕ
limit Write n = suc n
limit Read n = 1

pub limit-low : (d : Direction) (n : ℕ) → 1 ≤ limit d n
limit-low Write n = omega arith
limit-low Read n = omega arith

-- what the bus carried and the bytes sent, after one more pair
abbrev pub carried_after : ℕ → ℕ → List ℕ → List ℕ
carried_after number argument carried = elim (eqb number 7) [ true ↦ carried ++ (argument ∷ []) | false ↦ carried ]

abbrev pub sent_after : ℕ → ℕ → ℕ
sent_after number sent = elim (eqb number 6) [ true ↦ suc sent | false ↦ sent ]

-- in a buffered move fewer bytes were moved than BC says
pub below-count : (c : Controller) → sound c ≡ true → among (kind c.turn) data_turns ≡ true → c.control.mode ≡ true →
    c.moved < byte_count c
unfolding move_sound
below-count c s t m =
    let move = sym (when-true (among (kind c.turn) data_turns) _ _ t) ∙ (parts c s).move in
    ltb-true c.moved (byte_count c) (and_left _ _ (sym (when-true c.control.mode _ _ m) ∙ move))

module _ (job : Job) (payload : List ℕ) where
  -- the record and the notes while the job lasts, in whatever turn
  pub record Whole (p : Progress) : Type 0 where
    pub sound : sound p.controller ≡ true
    pub count : p.controller.registers.count ≡ count_of job.direction job.n
    pub places : length p.controller.buffer ≡ 68
    pub notes : length p.fetched ≡ 68
    pub lasts : p.over ≡ false

  -- between two pairs: so many bytes were sent, and this is what the bus carried
  pub record Good (carried : List ℕ) (sent : ℕ) (p : Progress) : Type 0 where
    pub whole : Whole p
    pub aa : p.controller.control.aa ≡ false
    pub bound : sent ≤ limit job.direction job.n
    pub turn : In p job_turns
    -- before the address byte is answered nothing was sent or received
    pub early : In p early_turns → (carried ≡ []) × (sent ≡ 0)
    -- Address: place 0 is the job's address byte
    pub addressing : In p (address ∷ []) →
        (p.controller.control.mode ≡ false) × (place p.controller 0 ≡ (byte_of job.address job.direction).0)
    -- Send: the first n places are the data
    pub sending : In p (send ∷ []) →
        (p.controller.control.mode ≡ true) × (job.direction ≡ Write) ×
        (take job.n p.controller.buffer ≡ take job.n payload) × (sent ≡ suc p.controller.moved)
    -- Receive: the first moved places are what the bus carried
    pub receiving : In p (receive ∷ []) →
        (p.controller.control.mode ≡ true) × (job.direction ≡ Read) ×
        (take p.controller.moved p.controller.buffer ≡ carried) × (sent ≡ 1)
    -- Stopping: where own STOP will finish a read, the bytes read back are what the bus carried
    pub stopped : In p (stopping ∷ []) → number_of p.ending ≡ 0 → job.direction ≡ Read → take job.n p.fetched ≡ carried

  -- a read that is done, after this event: it was own STOP, and what was read back is what the bus carried
  abbrev pub Finished : List ℕ → ℕ → Progress → Type 0
  Finished carried number q =
      number_of q.ending ≡ 0 → job.direction ≡ Read →
      (eqb number 4 ≡ true) × (take job.n q.fetched ≡ carried) × (length q.fetched ≡ 68)

  -- after a pair: the job is over, as done only by own STOP, or goes on
  pub data Stepped (carried : List ℕ) (sent number argument : ℕ) (q : Progress) : Type 0 where
    ended : q.over ≡ true → Finished carried number q → sent_after number sent ≤ limit job.direction job.n →
        Stepped carried sent number argument q
    going : eqb number 4 ≡ false → Good (carried_after number argument carried) (sent_after number sent) q → Stepped carried sent number argument q

  -- The invariant in each turn.
  module _ (p : Progress) (w : Whole p) (a : p.controller.control.aa ≡ false) where
    pub good-waiting : In p waiting_turns → Good [] 0 p
    good-waiting t =
        record {
          whole = w;
          aa = a;
          bound = let l = limit-low job.direction job.n in omega arith;
          turn = within _ waiting_turns job_turns tt t;
          early = λ _. (refl, refl);
          addressing = λ u. clash _ waiting_turns (address ∷ []) tt t u;
          sending = λ u. clash _ waiting_turns (send ∷ []) tt t u;
          receiving = λ u. clash _ waiting_turns (receive ∷ []) tt t u;
          stopped = λ u. clash _ waiting_turns (stopping ∷ []) tt t u;
        }

    pub good-addressing : In p (address ∷ []) → p.controller.control.mode ≡ false →
        place p.controller 0 ≡ (byte_of job.address job.direction).0 → Good [] 0 p
    good-addressing t m x =
        record {
          whole = w;
          aa = a;
          bound = let l = limit-low job.direction job.n in omega arith;
          turn = within _ (address ∷ []) job_turns tt t;
          early = λ _. (refl, refl);
          addressing = λ _. (m, x);
          sending = λ u. clash _ (address ∷ []) (send ∷ []) tt t u;
          receiving = λ u. clash _ (address ∷ []) (receive ∷ []) tt t u;
          stopped = λ u. clash _ (address ∷ []) (stopping ∷ []) tt t u;
        }

    pub good-sending : (carried : List ℕ) (sent : ℕ) → sent ≤ limit job.direction job.n → In p (send ∷ []) →
        p.controller.control.mode ≡ true → job.direction ≡ Write → take job.n p.controller.buffer ≡ take job.n payload →
        sent ≡ suc p.controller.moved → Good carried sent p
    good-sending carried sent l t m d x k =
        record {
          whole = w;
          aa = a;
          bound = l;
          turn = within _ (send ∷ []) job_turns tt t;
          early = λ u. clash _ (send ∷ []) early_turns tt t u;
          addressing = λ u. clash _ (send ∷ []) (address ∷ []) tt t u;
          sending = λ _. (m, d, x, k);
          receiving = λ u. clash _ (send ∷ []) (receive ∷ []) tt t u;
          stopped = λ u. clash _ (send ∷ []) (stopping ∷ []) tt t u;
        }

    pub good-receiving : (carried : List ℕ) → In p (receive ∷ []) → p.controller.control.mode ≡ true → job.direction ≡ Read →
        take p.controller.moved p.controller.buffer ≡ carried → Good carried 1 p
    good-receiving carried t m d x =
        record {
          whole = w;
          aa = a;
          bound = limit-low job.direction job.n;
          turn = within _ (receive ∷ []) job_turns tt t;
          early = λ u. clash _ (receive ∷ []) early_turns tt t u;
          addressing = λ u. clash _ (receive ∷ []) (address ∷ []) tt t u;
          sending = λ u. clash _ (receive ∷ []) (send ∷ []) tt t u;
          receiving = λ _. (m, d, x, refl);
          stopped = λ u. clash _ (receive ∷ []) (stopping ∷ []) tt t u;
        }

    pub good-stopping : (carried : List ℕ) (sent : ℕ) → sent ≤ limit job.direction job.n → In p (stopping ∷ []) →
        (number_of p.ending ≡ 0 → job.direction ≡ Read → take job.n p.fetched ≡ carried) → Good carried sent p
    good-stopping carried sent l t x =
        record {
          whole = w;
          aa = a;
          bound = l;
          turn = within _ (stopping ∷ []) job_turns tt t;
          early = λ u. clash _ (stopping ∷ []) early_turns tt t u;
          addressing = λ u. clash _ (stopping ∷ []) (address ∷ []) tt t u;
          sending = λ u. clash _ (stopping ∷ []) (send ∷ []) tt t u;
          receiving = λ u. clash _ (stopping ∷ []) (receive ∷ []) tt t u;
          stopped = λ _. x;
        }
