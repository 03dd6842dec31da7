use Rattle.std.proofs.Common.{◌∙◌, List, map, sym, subst}
use Rattle.std.specs.Prelude.{IfSome}
use Rattle.base_devices.specs.Content.{IsListing}
use Rattle.base_devices.specs.declared.disk.Found.{Found}
use Rattle.base_disk.proofs.Dropped.{entry}
use Rattle.cmd_archive_get_async.proofs.Looked.{has_by, lacks_by}
use Rattle.cmd_archive_get_async.proofs.ahead.prefetched.has_ahead.Goals as goal

pub returns-in-Ok-names-clause-has : goal.returns-in-Ok-names-clause-has
returns-in-Ok-names-clause-has g c = λ on.
    let now = (g.S.Disk.state c.args.spool.now).view.now in
    has_by c.args.stanza.now c.as_str.result.now c.as_str-in-Ok-names.result.now c.args.segment.now (c.as_str.ensures.value ∙ c.in-Ok.ensures) (c.as_str-in-Ok-names.ensures.value ∙ c.in-Ok-ahead_prefix.ensures) c.deref.result.now now
    (subst (λ (l : List Found). IfSome now (λ f. IsListing c.as_str.result.now f (map entry l))) (sym c.deref.ensures.value) c.in-Ok-names.ensures.listing) (c.any_of.ensures.some on)

pub returns-in-Ok-names-clause-lacks : goal.returns-in-Ok-names-clause-lacks
returns-in-Ok-names-clause-lacks g c = λ off.
    let now = (g.S.Disk.state c.args.spool.now).view.now in
    lacks_by c.args.stanza.now c.as_str.result.now c.as_str-in-Ok-names.result.now c.args.segment.now (c.as_str.ensures.value ∙ c.in-Ok.ensures) (c.as_str-in-Ok-names.ensures.value ∙ c.in-Ok-ahead_prefix.ensures) c.deref.result.now now
    (subst (λ (l : List Found). IfSome now (λ f. IsListing c.as_str.result.now f (map entry l))) (sym c.deref.ensures.value) c.in-Ok-names.ensures.listing) (c.any_of.ensures.none off)
