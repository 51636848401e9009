-- What a call of `perlovasta_trace` gives: three-byte groups, worked one after the other.
use Rattle.std.specs.Prelude.{Bool, true, false, List, [], ◌∷◌, ◌++◌, ℕ, ◌*◌, ◌/◌, ltb, length}
use Rattle.controller.specs.Reset.{fresh}
use Rattle.controller.specs.declared.record.Controller.{Controller}
use Rattle.notation.specs.Choice.{when◌then◌else◌, ◌or◌}
use Rattle.requests.specs.Groups.{group_of}
use Rattle.perlovasta.specs.Log.{entry_of}

-- its result, and the bytes that the log begins with after it, its rest as it was
pub record TraceCall : Type 0 where
  pub answer : ℕ
  pub logged : List ℕ

-- not whole groups, or a group of a kind over 2
unfoldable pub bad_trace : List ℕ → Bool
bad_trace [] = false
bad_trace (kind ∷ []) = true
bad_trace (kind ∷ place ∷ []) = true
bad_trace (kind ∷ place ∷ value ∷ rest) = ltb 2 kind or bad_trace rest

-- the log of the groups: each gets the record that the one before left
unfoldable pub log_of : Controller → List ℕ → List ℕ
log_of c [] = []
log_of c (kind ∷ []) = []
log_of c (kind ∷ place ∷ []) = []
log_of c (kind ∷ place ∷ value ∷ rest) =
    let o = group_of c kind place value in
    entry_of o ++ log_of o.next rest

-- the trace and the length of the log, which has to have eight bytes for each group: 0 for a trace that was run, else 21
unfoldable pub trace_call : List ℕ → ℕ → TraceCall
trace_call trace logLength =
    when bad_trace trace or ltb logLength (8 * (length trace / 3)) then record { answer = 21; logged = [] }
    else record { answer = 0; logged = log_of fresh trace }
