-- What is kept, from the spans that were counted.
use Rattle.std.proofs.Common.{◌≡◌, ℕ, Bool, List, length, Option, refl, ap, ◌∙◌}
use Rattle.std.specs.Prelude.{filter}
use Rattle.base_model.specs.declared.labels.BackupKind.TheVariants.{Incr}
use Rattle.base_model.specs.declared.wal.Segment.{Segment}
use Rattle.base_model.specs.declared.wal.Span.{Span}
use Rattle.base_model.specs.Values.{Entry}
use Rattle.expire_rules.specs.declared.rules.Rules.{Rules}
use Rattle.expire_rules.specs.Needed.{Keeping, keeping, counts, spans_of, archive_number, keeps_all, start_from}
use Rattle.expire_rules.proofs.Counted.{all_count}

pub keeping_is : (rules : Rules) (current : Bool) (es : List Entry) (all counted seen : List Span) (number : Option ℕ) (n m : ℕ) (a : Bool) (f : Option Segment)
    → all ≡ spans_of (filter (counts Incr) es) → counted ≡ spans_of (filter (counts rules.archive_kind) es) → seen ≡ counted → n ≡ length counted → m ≡ length counted
    → number ≡ archive_number rules n → a ≡ keeps_all current number m → f ≡ start_from number seen
    → ◌≡◌ {A = Keeping} (record { all = a; from = f; spans = all }) (keeping rules current es)
keeping_is rules current es all counted seen number n m a f all_is counted_is seen_is n_is m_is number_is a_is f_is =
    let number_at : number ≡ archive_number rules (length counted) = number_is ∙ ap (archive_number rules) n_is in
    let a_at : a ≡ keeps_all current (archive_number rules (length counted)) (length counted) = a_is ∙ ap (keeps_all current number) m_is ∙ ap (λ (k : Option ℕ). keeps_all current k (length counted)) number_at in
    let f_at : f ≡ start_from (archive_number rules (length counted)) counted = f_is ∙ ap (start_from number) seen_is ∙ ap (λ (k : Option ℕ). start_from k counted) number_at in
    let s_at : all ≡ spans_of es = all_is ∙ ap spans_of (all_count es) in
    let first : ◌≡◌ {A = Keeping} (record { all = a; from = f; spans = all }) (record { all = keeps_all current (archive_number rules (length counted)) (length counted); from = start_from (archive_number rules (length counted)) counted; spans = spans_of es }) = rw (a_at, f_at, s_at) refl in
    first ∙ ap (λ (c : List Span). (let k : Keeping = record { all = keeps_all current (archive_number rules (length c)) (length c); from = start_from (archive_number rules (length c)) c; spans = spans_of es } in k)) counted_is
