use Rattle.std.proofs.Common.{◌≡◌, List, Option, Some, None, map, sym, ap, ◌∙◌, subst}
use Rattle.std.specs.Prelude.{codes, IfSome}
use Rattle.std.specs.List.{AllByRecursion}
use Rattle.base_model.specs.declared.labels.Label.{Label}
use Rattle.base_model.specs.declared.wal.WalPart.{WalPart}
use Rattle.base_model.specs.InfoText.{Section, IsKey}
use Rattle.base_model.specs.InfoFiles.{IsLabel, label_value}
use Rattle.base_model.specs.Fields.{Field}
use Rattle.base_model.specs.ManifestText.{IsSegSize, IsWalPart}
use Rattle.repo_ini.specs.Parts.{key_of, sections_of}
use Rattle.repo_keys.specs.Agree.{IsKeysOf, IsFirstDifference, IsOrdered}
use Rattle.repo_keys.proofs.Forms.{form_as}
use Rattle.repo_manifest.specs.ManifestForm.{IsManifestForm}
use Rattle.repo_names.specs.Spans.{IsSpanOf}
use Rattle.repo_manifest.specs.Read.{IsReadAt, IsLogRead}
use Rattle.repo_manifest.proofs.HeadForms.{wrong_head, wrong_log}
use Rattle.repo_manifest.proofs.Headed.{of_head}
use Rattle.repo_manifest.proofs.ManifestRules.{backup_keys, backup_order}
use Rattle.repo_manifest.proofs.Wrongs.{form_of}
use Rattle.repo_manifest.proofs.backup_section.head_in.Goals as goal

earlier : (ks : List Field) (o : Option Label) → IfSome o (λ l. IsLabel l × IsReadAt label_value IsLabel ks (codes "backup-prior") l) → IfSome o IsLabel
earlier ks None h = tt
earlier ks (Some l) h = h.0

sized : (ks : List Field) (o : Option WalPart) → IfSome o (IsLogRead ks) → IfSome o (λ w. IsSegSize w.size.0)
sized ks None h = tt
sized ks (Some w) h = h.size.0

part_of : (ks : List Field) (o : Option WalPart) → IfSome o (IsLogRead ks) → IfSome o (λ w. IsSpanOf w.size.0 w.span) → IfSome o IsWalPart
part_of ks None h g = tt
part_of ks (Some w) h g = record {
  size = h.size.0;
  start = (h.start.0, g.start);
  stop = (h.stop.0, g.stop);
  timeline = g.timeline;
  order = g.order;
  short = g.short;
  from = h.from.0;
  to = h.to.0;
}

some_read : (ks : List Field) (o : Option WalPart) (w : WalPart) → o ≡ Some w → IfSome o (IsLogRead ks) → IsLogRead ks w
some_read ks o w e h = subst (λ (q : Option WalPart). IfSome q (IsLogRead ks)) e h

pub head_part-requires-clause-prior : goal.head_part-requires-clause-prior
head_part-requires-clause-prior c = earlier (map key_of c.keys_at-keys.result.now) c.head_of-head.result.prior c.head_of-head.ensures.prior

pub first_difference-requires-clause-keys : goal.first_difference-requires-clause-keys
first_difference-requires-clause-keys c =
    let ks = map key_of c.keys_at-keys.result.now in
    let h = c.head_of-head.result in
    let read = c.head_of-head.ensures in
    let is = ap (map key_of) c.deref.ensures.value ∙ ap (λ (s : Section). s.keys) c.in_ok-expected.ensures in
    subst (AllByRecursion IsKey) (sym is) (backup_keys (of_head h) read.label.0 (earlier ks h.prior read.prior) read.start.0 read.stop.0 (sized ks h.wal read.log))

pub first_difference-requires-clause-ordered : goal.first_difference-requires-clause-ordered
first_difference-requires-clause-ordered c =
    let h = c.head_of-head.result in
    let is = ap (map key_of) c.deref.ensures.value ∙ ap (λ (s : Section). s.keys) c.in_ok-expected.ensures in
    subst IsOrdered (sym is) (backup_order h.wal h.prior (of_head h))

pub returns-in-Some-clause-fault : goal.returns-in-Some-clause-fault
returns-in-Some-clause-fault c =
    let ss = sections_of c.args.parts.now in
    let ks = map key_of c.keys_at-keys.result.now in
    let key = c.in-Some.key.now in
    let expected = ap (map key_of) c.deref.ensures.value ∙ ap (λ (s : Section). s.keys) c.in_ok-expected.ensures in
    let differ = subst (λ (xs : List Field). IsFirstDifference xs ks key) expected (rw c.in-Some.is at c.in_ok-key.ensures.some) in
    let wrong = wrong_head ss c.requires ks c.keys_at-keys.ensures.is c.keys_at-keys.ensures.order c.head_of-head.result c.head_of-head.ensures key differ in
    form_as c.form.result (codes "backup") key (IsManifestForm ss) c.form.ensures (form_of ss (codes "backup") key wrong)

pub returns-then-not-has_span-clause-fault : goal.returns-then-not-has_span-clause-fault
returns-then-not-has_span-clause-fault c =
    let ss = sections_of c.args.parts.now in
    let ks = map key_of c.keys_at-keys.result.now in
    let h = c.head_of-head.result in
    let expected = ap (map key_of) c.deref.ensures.value ∙ ap (λ (s : Section). s.keys) c.in_ok-expected.ensures in
    let same = sym expected ∙ (rw c.in_default.is at c.in_ok-key.ensures.none) in
    let (w, is, off) = c.has_span.ensures.other c.if-not-has_span.true in
    let wrong = wrong_log ss c.requires ks c.keys_at-keys.ensures.is c.keys_at-keys.ensures.order h same w is (some_read ks h.wal w is c.head_of-head.ensures.log) off in
    form_as c.form-then-not-has_span.result (codes "backup") (codes "backup-wal-segment-size") (IsManifestForm ss) c.form-then-not-has_span.ensures (form_of ss (codes "backup") (codes "backup-wal-segment-size") wrong)

pub returns-clause-rules : goal.returns-clause-rules
returns-clause-rules c =
    let ks = map key_of c.keys_at-keys.result.now in
    let h = c.head_of-head.result in
    let read = c.head_of-head.ensures in
    record {
      label = read.label.0;
      kind = read.kind;
      prior = (read.has, earlier ks h.prior read.prior);
      start = read.start.0;
      stop = read.stop.0;
      wal = part_of ks h.wal read.log (c.has_span.ensures.fit c.if-not-has_span.false);
    }

pub returns-clause-known : goal.returns-clause-known
returns-clause-known c =
    let ss = sections_of c.args.parts.now in
    let expected = ap (map key_of) c.deref.ensures.value ∙ ap (λ (s : Section). s.keys) c.in_ok-expected.ensures in
    let same = sym expected ∙ (rw c.in_default.is at c.in_ok-key.ensures.none) in
    λ cluster o fs ps. subst (IsKeysOf ss (codes "backup")) (sym same) c.keys_at-keys.ensures.is

pub has_span-requires : goal.has_span-requires
has_span-requires c = sized (map key_of c.keys_at-keys.result.now) c.head_of-head.result.wal c.head_of-head.ensures.log
