use Rattle.std.proofs.Common.{◌≡◌, ◌-◌, ◌<◌, [], length, Some, refl, sym, ap, ◌∙◌, arith}
use Rattle.std.proofs.lemmas.Option.{slice_get_read}
use Rattle.base_model.specs.Fields.{at_number}
use Rattle.base_model.specs.Values.{archive_info_of}
use Rattle.repo_ini.specs.Parts.{sections_of}
use Rattle.repo_info.proofs.ArchiveRules.{db, history, archive_sections_are}
use Rattle.repo_info.proofs.PartLists.{two_more}
use Rattle.repo_info.proofs.archive_info.ArchiveInfoInfo.parts.Goals as goal

pub returns-clause-sections : goal.returns-clause-sections
returns-clause-sections c =
    let v = c.args.self.now in
    let clusters = v.history.items in
    let current = c.index-current.result.now in
    let at : at_number v.current clusters ≡ Some current = slice_get_read clusters (length clusters) (v.current - 1) current refl (omega arith) c.index-current.ensures in
    let kept : 0 < length clusters = omega arith in
    two_more c.new-parts.result.items _ _ _ _ [] (db current) (history clusters) (ap sections_of c.new-parts.ensures.items) c.in_ok-push.ensures.items c.in_ok-push-2.ensures.items c.in_ok-current_part.ensures (c.in_ok-history_part.ensures ∙ ap history c.deref.ensures.value)
    ∙ sym (archive_sections_are (archive_info_of v) current kept at)
