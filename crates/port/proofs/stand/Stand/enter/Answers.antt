-- `enter` is `enters`: each arm names what its lines have in common, the count that they note; only a line of a fault has no access.
use mathlib.Core.Bool.{Bool, true, false, ◌||◌}
use mathlib.Core.List.{List, [], ◌∷◌, ◌++◌, map}
use mathlib.Core.Path.{◌≡◌, refl, sym, ap, ◌∙◌}
use Prim.Native.Nat.{ℕ}
use lib.Dec.{eqb, eqb-suc-zero}
use lib.ListN.{length, take}
use Rattle.address.specs.declared.number.Direction.TheVariants.{Write, Read}
use Rattle.address.specs.declared.number.Direction.{Direction}
use Rattle.answer.specs.declared.ending.Ending.TheVariants.{Fault}
use Rattle.control.specs.Turn.{faults}
use Rattle.notation.proofs.Among.{has, among-has, passes, none_of, one_of}
use Rattle.notation.specs.Choice.{when◌then◌else◌, among}
use Rattle.port.proofs.Totals.{Each, at_each, data_accesses}
use Rattle.port.specs.Hear.{concludes, enters}
use Rattle.port.specs.InHand.{reads_from, accesses, notes}
use Rattle.port.specs.Look.{meets}
use Rattle.port.specs.Stand.{at_work, ended}
use Rattle.port.specs.declared.stage.Stage.TheVariants.{Working}
use Rattle.port.specs.declared.stand.Stand.{Stand}
use Rattle.service.specs.Act.{Act, writes, read_times}
use Rattle.service.specs.JobSteps.{end_after}
use Rattle.service.specs.JobTable.{job_table}
use types.Run.{OneOf}
use Rattle.port.proofs.stand.Stand.enter.Goals as goal

-- the statuses of the arms, and those left to the default
abbrev nacked : List ℕ
nacked = 0x20 ∷ 0x48 ∷ []

abbrev done : List ℕ
done = 0x28 ∷ 0x58 ∷ []

abbrev others : List ℕ
others = 0x08 ∷ 0x18 ∷ 0x30 ∷ 0x38 ∷ 0x40 ∷ []

abbrev in_some : ℕ → Bool
in_some k = has faults k || (has nacked k || (has done k || has others k))

all-met : (direction : Direction) (x : ℕ) → among x (meets direction) ≡ true → in_some x ≡ true
all-met Write x e = passes in_some true (meets Write) x (one_of (meets Write) x e) tt
all-met Read x e = passes in_some true (meets Read) x (one_of (meets Read) x e) tt

not-has : (ks : List ℕ) (x : ℕ) → (OneOf ks x → ⊥) → has ks x ≡ false
not-has ks x n = sym (among-has x ks) ∙ none_of ks x n

left_over : (direction : Direction) (x : ℕ) → among x (meets direction) ≡ true →
    (OneOf faults x → ⊥) → (OneOf nacked x → ⊥) → (OneOf done x → ⊥) → OneOf others x
left_over direction x e f n d =
    one_of others x (among-has x others ∙ (rw (not-has faults x f, not-has nacked x n, not-has done x d) at (all-met direction x e)))

-- data and a write are some accesses, and note no count
some : (xs : List Act) (w : Act) → eqb (length (xs ++ (w ∷ []))) 0 ≡ false
some [] w = refl
some (x ∷ xs) w = eqb-suc-zero (length (xs ++ (w ∷ [])))

no_note : (count : ℕ) (xs : List ℕ) → notes count (map (writes 1) xs ++ (writes 3 0x41 ∷ [])) ≡ count
unfolding notes
no_note count [] = refl
no_note count (x ∷ xs) = refl

-- whether the line at a status has no access, and the count that it notes
abbrev none-at : Stand → List ℕ → ℕ → Bool
none-at s payload x = eqb (length (accesses s.count (job_table s.job payload x s.count).acts)) 0

abbrev noted-at : Stand → List ℕ → ℕ → ℕ
noted-at s payload x = notes s.count (job_table s.job payload x s.count).acts

entered : (s : Stand) (payload ks : List ℕ) (status k : ℕ) → OneOf ks status → Each (none-at s payload) false ks → Each (noted-at s payload) k ks →
    enters s status (job_table s.job payload status s.count) ≡ at_work s Working status k
unfolding enters when◌then◌else◌
entered s payload ks status k h access count =
    rw (at_each (none-at s payload) false ks status h access, at_each (noted-at s payload) k ks status h count)

pub returns-in-0 : goal.returns-in-0
unfolding job_table among when◌then◌else◌ enters accesses notes concludes
returns-in-0 c = λ payload.
    let s = c.args.self in
    let status = c.args.status in
    c.end.ensures
    ∙ ap (λ (t : Stand). ended t 26 0) c.at_work.ensures
    ∙ sym (ap (enters s status)
    (at_each (λ x. job_table s.job payload x s.count) (end_after [] Fault) faults status c.in-0.is (refl, (refl, (refl, tt)))))

pub returns-in-32 : goal.returns-in-32
unfolding job_table among when◌then◌else◌ accesses notes
returns-in-32 c = λ payload.
    let args = c.args in
    c.at_work-in-32.ensures
    ∙ sym (entered args.self payload nacked args.status 0 c.in-32.is (refl, (refl, tt)) (refl, (refl, tt)))

pub returns-in-40 : goal.returns-in-40
unfolding job_table among when◌then◌else◌ accesses notes
returns-in-40 c = λ payload.
    let args = c.args in
    let s = args.self in
    c.at_work-in-40.ensures
    ∙ sym (entered s payload done args.status s.job.n c.in-40.is
    (refl, (some (reads_from (read_times s.job.n) 0) (writes 3 0x50), tt)) (refl, (refl, tt)))

pub returns-in_default : goal.returns-in_default
unfolding job_table among when◌then◌else◌ accesses notes
returns-in_default c = λ payload.
    let args = c.args in
    let s = args.self in
    let status = args.status in
    let rest = c.in_default.in_default-own.rest in
    let sent = take s.job.n payload in
    c.at_work-in_default.ensures
    ∙ sym (entered s payload others status s.count
    (left_over s.job.direction status c.requires rest.0.0.1 rest.0.1 rest.1)
    (refl, (rw (data_accesses s.count sent (writes 3 0x41 ∷ [])) (some (map (writes 1) sent) (writes 3 0x41)), (refl, (refl, (refl, tt)))))
    (refl, (no_note s.count sent, (refl, (refl, (refl, tt))))))
