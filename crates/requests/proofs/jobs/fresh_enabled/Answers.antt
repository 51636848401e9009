-- `fresh_enabled` is `fresh_enabled`, worked out.
use mathlib.Core.Path.{sym}
use Rattle.controller.specs.Reset.{reset_with}
use Rattle.requests.proofs.FreshEnabled.{fresh_enabled_is}
use Rattle.requests.proofs.jobs.fresh_enabled.Goals as goal

pub returns : goal.returns
unfolding reset_with
returns c = rw c.fresh.ensures (sym fresh_enabled_is)
