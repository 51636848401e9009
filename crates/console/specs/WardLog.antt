-- Document 02, request 5: what the ward log says of an address byte.
use Rattle.std.specs.Prelude.{Bool, List, [], ◌++◌, ℕ, eqb, codes}
use Rattle.address.specs.declared.matching.AddressMatch.{AddressMatch}
use Rattle.address.specs.declared.matching.Match.TheVariants.{Own, General, Nothing}
use Rattle.address.specs.declared.matching.Match.{Match}
use Rattle.address.specs.declared.number.Direction.TheVariants.{Write, Read}
use Rattle.controller.specs.Condition.{match_on_bus}
use Rattle.controller.specs.declared.record.Controller.{Controller}
use Rattle.notation.specs.Choice.{when◌then◌else◌, ◌and◌, ◌or◌}
use Rattle.text.specs.Text.{hex_of}

-- The words.
abbrev pub called_word : List ℕ
called_word = codes " called "

-- what was called, with the direction where there is one
unfoldable pub call_word : Match → List ℕ
call_word (Own Write) = codes "own write "
call_word (Own Read) = codes "own read "
call_word General = codes "general "
call_word Nothing = codes "none "

-- ` called own write 70`: what was called, and the seven-bit address
unfoldable pub match_text : AddressMatch → List ℕ
match_text m = called_word ++ (call_word m.call ++ hex_of m.address.0)

-- an event (in a trace a group of kind 2), 5 or 8, and accepted
unfoldable pub tells_call : (kind number refused : ℕ) → Bool
tells_call kind number refused = (eqb kind 2 and (eqb number 5 or eqb number 8)) and eqb refused 0

-- what the ward log notes of a group that the record c was given: of such an event what the match answers, of any other group nothing
unfoldable pub ward_note : Controller → (kind number argument refused : ℕ) → List ℕ
ward_note c kind number argument refused = when tells_call kind number refused then match_text (match_on_bus c argument) else []
