-- What a driver does to a sound record leaves it sound, whatever its table. Assumes nothing.
use mathlib.Core.Bool.{true}
use mathlib.Core.List.{List, [], ◌∷◌}
use mathlib.Core.Path.{◌≡◌}
use Prim.Native.Nat.{ℕ, zero, suc, ◌+◌}
use Rattle.block.specs.Block.{written}
use Rattle.controller.specs.Record.{sound}
use Rattle.controller.specs.declared.record.Controller.{Controller}
use Rattle.laws.proofs.Soundness.{read-stays-sound, write-stays-sound}
use Rattle.service.specs.Act.{Act, writes, reads_data, reads_all, reads_count, counts, Then, goes_on, awaits, ends, finishes, Work}
use Rattle.service.specs.Act.{put, fetch_one, fetch, read_times, does, does_all, follows, performs}
use Rattle.service.specs.declared.progress.Progress.{Progress}

pub put-sound : (c : Controller) (register value : ℕ) → sound c ≡ true → sound (put c register value) ≡ true
unfolding put
put-sound c register value s = write-stays-sound c register value s

pub written-sound : (xs : List ℕ) (c : Controller) → sound c ≡ true → sound (written xs c) ≡ true
unfolding written
written-sound [] c s = s
written-sound (x ∷ xs) c s = written-sound xs _ (write-stays-sound c 1 x s)

-- the record held is sound
abbrev pub KeepsSound : Progress → Type 0
KeepsSound p = sound p.controller ≡ true

fetch-sound : (more i : ℕ) (p : Progress) → KeepsSound p → KeepsSound (fetch more i p)
unfolding fetch fetch_one
fetch-sound zero i p s = s
fetch-sound (suc more) i p s = fetch-sound more (i + 1) (fetch_one i p) (read-stays-sound p.controller 1 s)

pub does-sound : (x : Act) (p : Progress) → KeepsSound p → KeepsSound (does x p)
unfolding does fetch_one
does-sound (writes register value) p s = put-sound p.controller register value s
does-sound (reads_data at) p s = read-stays-sound p.controller 1 s
does-sound reads_all p s = fetch-sound (read_times p.count) 0 p s
does-sound reads_count p s = read-stays-sound p.controller 2 s
does-sound (counts count) p s = s

pub acts-sound : (xs : List Act) (p : Progress) → KeepsSound p → KeepsSound (does_all xs p)
unfolding does_all
acts-sound [] p s = s
acts-sound (x ∷ xs) p s = acts-sound xs (does x p) (does-sound x p s)

follows-sound : (t : Then) (p : Progress) → KeepsSound p → KeepsSound (follows t p)
unfolding follows
follows-sound goes_on p s = s
follows-sound (awaits ending) p s = s
follows-sound (ends ending) p s = s
follows-sound finishes p s = s

pub performs-sound : (w : Work) (p : Progress) → KeepsSound p → KeepsSound (performs w p)
unfolding performs
performs-sound w p s = follows-sound w.after _ (acts-sound w.acts p s)
