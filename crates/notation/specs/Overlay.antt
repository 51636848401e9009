-- Bytes laid over memory that a caller lent.
use Rattle.std.specs.Prelude.{List, [], ◌∷◌, ◌++◌, ℕ, take, drop}

-- Document 01, Jobs: "The out record begins with those and its rest stays", and so the destination: a lent buffer that begins with these
-- bytes. (Bytes for which it has no place are left out; that a job sends and hands up no more than fit is `always-fits`,
-- crates/runs/proofs/Fits.antt.)
unfoldable pub laid : List ℕ → List ℕ → List ℕ
laid [] lent = lent
laid (x ∷ xs) [] = []
laid (x ∷ xs) (y ∷ lent) = x ∷ laid xs lent

-- a lent buffer in which these bytes begin at place k, all else as it was
unfoldable pub laid_at : ℕ → List ℕ → List ℕ → List ℕ
laid_at k xs lent = take k lent ++ laid xs (drop k lent)
