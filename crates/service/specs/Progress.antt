-- What a driver keeps, with one item changed. Plumbing, as crates/controller/specs/Setters.antt: each setter gives all items to one maker.
use Rattle.std.specs.Prelude.{Bool, false, List, ℕ, replicate}
use Rattle.answer.specs.declared.ending.Ending.TheVariants.{Unfinished}
use Rattle.answer.specs.declared.ending.Ending.{Ending}
use Rattle.controller.specs.declared.record.Controller.{Controller}
use Rattle.service.specs.declared.progress.Progress.{Progress}

abbrev pub progress : Controller → Bool → Ending → ℕ → ℕ → List ℕ → Progress
progress controller over ending count events fetched = record {
  controller = controller;
  over = over;
  ending = ending;
  count = count;
  events = events;
  fetched = fetched;
}

abbrev pub with_record : Progress → Controller → Progress
with_record p c = progress c p.over p.ending p.count p.events p.fetched

abbrev pub with_over : Progress → Bool → Progress
with_over p x = progress p.controller x p.ending p.count p.events p.fetched

abbrev pub with_ending : Progress → Ending → Progress
with_ending p x = progress p.controller p.over x p.count p.events p.fetched

abbrev pub with_noted_count : Progress → ℕ → Progress
with_noted_count p x = progress p.controller p.over p.ending x p.events p.fetched

abbrev pub with_events : Progress → ℕ → Progress
with_events p x = progress p.controller p.over p.ending p.count x p.fetched

abbrev pub with_fetched : Progress → List ℕ → Progress
with_fetched p x = progress p.controller p.over p.ending p.count p.events x

-- the record and the pairs taken, as they are now
unfoldable pub reaching : Progress → Controller → ℕ → Progress
reaching p c events = with_events (with_record p c) events

-- with this record nothing is read back yet, and no pair taken. The ending noted is a placeholder, since own STOP cannot come before 50h.
unfoldable pub starting : Controller → Progress
starting c = progress c false Unfinished 0 0 (replicate 68 0)
