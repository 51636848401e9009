-- The accesses of a line's acts, made one by one, do what the acts do. Assumes nothing.
use mathlib.Core.Bool.{true, false}
use mathlib.Core.List.{List, [], ◌∷◌, ◌++◌, map}
use mathlib.Core.Path.{◌≡◌, refl, sym, ap, ◌∙◌}
use Prim.Native.Nat.{ℕ, zero, suc, ◌+◌, ◌≤◌}
use native.Mathlib.Omega.{arith}
use borrow.Author.Tests.{ltb-false}
use lib.Dec.{eqb}
use lib.ListN.{length, length-append, length-map}
use Rattle.notation.proofs.Cases.{split}
use Rattle.port.specs.InHand.{reads_from, accesses, notes}
use Rattle.port_job.proofs.Drives.{single, Each}
use Rattle.runs.proofs.ActsKeep.{AllWrite}
use Rattle.service.specs.Act.{Act, writes, reads_data, reads_all, reads_count, counts, fetch_one, fetch, read_times, does, does_all}
use Rattle.service.specs.Progress.{with_noted_count}
use Rattle.service.specs.declared.progress.Progress.{Progress}

-- These acts come to these accesses, whatever count is noted; `xs` are not too many for one rest.
pub record Flat (acts xs : List Act) : Type 0 where
  pub steady : (count : ℕ) → accesses count acts ≡ xs
  pub does : (p : Progress) → does_all acts p ≡ does_all xs (with_noted_count p (notes p.count acts))
  pub each : Each single xs
  pub short : length xs ≤ 69

-- How the port goes through them: one after the other; or, where it reads bytes back, I2CCON is looked at before the last.
pub data Course (status : ℕ) : List Act → Type 0 where
  straight : {xs : List Act} → eqb status 0x58 ≡ false → Course status xs
  rechecked : (front : List Act) (value : ℕ) → eqb status 0x58 ≡ true → Each single front → AllWrite [] front →
      Course status (front ++ (writes 3 value ∷ []))

-- acts that are one access each are their own accesses
own-accesses : (acts : List Act) (count : ℕ) → Each single acts → accesses count acts ≡ acts
unfolding accesses
own-accesses [] count o = refl
own-accesses (writes register value ∷ xs) count o = ap {B = List Act} (λ ys. writes register value ∷ ys) (own-accesses xs count o.1)
own-accesses (reads_data i ∷ xs) count o = ap {B = List Act} (λ ys. reads_data i ∷ ys) (own-accesses xs count o.1)
own-accesses (reads_all ∷ xs) count o = absurd o.0
own-accesses (reads_count ∷ xs) count o = ap {B = List Act} (λ ys. reads_count ∷ ys) (own-accesses xs count o.1)
own-accesses (counts k ∷ xs) count o = absurd o.0

own-notes : (acts : List Act) (count : ℕ) → Each single acts → notes count acts ≡ count
unfolding notes
own-notes [] count o = refl
own-notes (writes register value ∷ xs) count o = refl
own-notes (reads_data i ∷ xs) count o = refl
own-notes (reads_all ∷ xs) count o = absurd o.0
own-notes (reads_count ∷ xs) count o = refl
own-notes (counts k ∷ xs) count o = absurd o.0

pub flat-own : (acts : List Act) → Each single acts → length acts ≤ 69 → Flat acts acts
flat-own acts o l = record {
  steady = λ count. own-accesses acts count o;
  does = λ p. rw (own-notes acts p.count o);
  each = o;
  short = l;
}

-- a count noted before them
pub flat-counted : (n : ℕ) (acts : List Act) → Each single acts → length acts ≤ 69 → Flat (counts n ∷ acts) acts
unfolding accesses notes does_all does
flat-counted n acts o l = record {
  steady = λ count. own-accesses acts n o;
  does = λ p. rw (own-notes acts n o);
  each = o;
  short = l;
}

each_append : (xs ys : List Act) → Each single xs → Each single ys → Each single (xs ++ ys)
each_append [] ys o u = u
each_append (x ∷ xs) ys o u = (o.0, each_append xs ys o.1 u)

-- data written
each_write : (bytes : List ℕ) → Each single (map (writes 1) bytes)
each_write [] = tt
each_write (x ∷ xs) = (tt, each_write xs)

pub flat-written : (bytes : List ℕ) (value : ℕ) → length bytes ≤ 68 →
    Flat (map (writes 1) bytes ++ (writes 3 value ∷ [])) (map (writes 1) bytes ++ (writes 3 value ∷ []))
flat-written bytes value l =
    flat-own _ (each_append (map (writes 1) bytes) _ (each_write bytes) (tt, tt))
    (simp (length-append, length-map) (omega arith))

-- data read
reads_as_lem : (more i : ℕ) (ys : List Act) (p : Progress) → does_all (reads_from more i ++ ys) p ≡ does_all ys (fetch more i p)
unfolding reads_from does_all does fetch
reads_as_lem zero i ys p = refl
reads_as_lem (suc more) i ys p = reads_as_lem more (i + 1) ys (fetch_one i p)

pub reads_only : (more i : ℕ) → AllWrite [] (reads_from more i)
unfolding reads_from
reads_only zero i = tt
reads_only (suc more) i = (tt, reads_only more (i + 1))

pub each_read : (more i : ℕ) → Each single (reads_from more i)
unfolding reads_from
each_read zero i = tt
each_read (suc more) i = (tt, each_read more (i + 1))

reads-length : (more i : ℕ) → length (reads_from more i) ≡ more
unfolding reads_from
reads-length zero i = refl
reads-length (suc more) i = ap suc (reads-length more (i + 1))

times_bound : (n : ℕ) → read_times n ≤ 68
unfolding read_times
times_bound n = split (λ (k : ℕ). k ≤ 68) _ _ _ (λ _. omega arith) (λ e. ltb-false 68 n e)

pub flat-read : (n value : ℕ) → Flat (counts n ∷ reads_all ∷ writes 3 value ∷ []) (reads_from (read_times n) 0 ++ (writes 3 value ∷ []))
unfolding accesses notes does_all does
flat-read n value = record {
  steady = λ count. refl;
  does = λ p. sym (reads_as_lem (read_times n) 0 (writes 3 value ∷ []) (with_noted_count p n));
  each = each_append (reads_from (read_times n) 0) _ (each_read (read_times n) 0) (tt, tt);
  short = let b = times_bound n in simp (length-append, reads-length) (omega arith);
}

-- no act ends a job
each-lasts : (xs : List Act) (p : Progress) → Each single xs → (does_all xs p).over ≡ p.over
unfolding does_all does fetch_one
each-lasts [] p o = refl
each-lasts (writes register value ∷ xs) p o = each-lasts xs (does (writes register value) p) o.1
each-lasts (reads_data i ∷ xs) p o = each-lasts xs (does (reads_data i) p) o.1
each-lasts (reads_all ∷ xs) p o = absurd o.0
each-lasts (reads_count ∷ xs) p o = each-lasts xs (does reads_count p) o.1
each-lasts (counts k ∷ xs) p o = absurd o.0

pub lasts : {acts xs : List Act} → Flat acts xs → (p : Progress) → (does_all acts p).over ≡ p.over
lasts {acts} {xs} f p = ap (λ (q : Progress). q.over) (f.does p) ∙ each-lasts xs _ f.each
