use Rattle.std.proofs.Common.{◌≡◌, ◌∙◌, sym, ap, arith, length}
use Rattle.archive_lookup.proofs.Bounding.{none_outside, known_whole}
use Rattle.archive_lookup.proofs.stored.bounds.whole_in.Goals as goal

pub returns-then-not-is_log_folder-clause-whole : goal.returns-then-not-is_log_folder-clause-whole
returns-then-not-is_log_folder-clause-whole g c =
    none_outside c.args.stanza.now c.args.id _ c.args.folder.now c.as_bytes.result.now c.is_log_folder.result c.new.result.items c.as_bytes.ensures.value c.if-not-is_log_folder.true c.is_log_folder.ensures c.new.ensures.items

pub returns-clause-whole : goal.returns-clause-whole
returns-clause-whole g c =
    let long : length c.args.folder.now ≡ 16 = sym (ap length c.as_bytes.ensures.value) ∙ (c.is_log_folder.ensures.0 c.if-not-is_log_folder.false).0 in
    known_whole c.args.stanza.now c.args.id (omega arith) (omega arith) _ c.args.folder.now _ _ _ c.in_ok-found.found.items _ c.in_ok-whole_among.field-0.items long
    c.in_ok-place.ensures c.as_str.ensures.value (c.as_str-2.ensures.value ∙ c.in_ok-prefix.ensures.ok) c.deref.ensures.value c.in_ok-found.ensures.listing c.in_ok-whole_among.ensures
