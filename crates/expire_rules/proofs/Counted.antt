-- The spans of a list of backups, one backup more.
use Rattle.std.proofs.Common.{◌≡◌, ℕ, ◌+◌, ◌<◌, List, [], ◌∷◌, ◌++◌, map, length, take, get_or, refl, ap, ◌∙◌, sym, append_assoc}
use Rattle.std.specs.Prelude.{filter, nat_eq}
use Rattle.std.proofs.lemmas.List.{map_more}
use Rattle.std.proofs.lemmas.List.Elements.{filter-append}
use Rattle.base_model.specs.declared.labels.BackupKind.{BackupKind}
use Rattle.base_model.specs.declared.labels.BackupKind.TheVariants.{Incr}
use Rattle.base_model.specs.declared.labels.Entry as rust_entry
use Rattle.base_model.specs.declared.wal.Span.{Span}
use Rattle.base_model.specs.Values.{Entry, entry_of}
use Rattle.expire_rules.specs.Needed.{counts, of_cluster, spans_of, span_list, counted_spans}

spans_append : (xs ys : List Entry) → spans_of (xs ++ ys) ≡ spans_of xs ++ spans_of ys
spans_append [] ys = refl
spans_append (x ∷ xs) ys = ap (λ (l : List Span). span_list x.span ++ l) (spans_append xs ys) ∙ sym (append_assoc (span_list x.span) (spans_of xs) (spans_of ys))

counted_append : (kind : BackupKind) (number : ℕ) (xs ys : List Entry) → counted_spans kind number (xs ++ ys) ≡ counted_spans kind number xs ++ counted_spans kind number ys
counted_append kind number xs ys =
    ap (λ (l : List Entry). spans_of (filter (counts kind) l)) (filter-append (λ (e : Entry). nat_eq e.db number) xs ys)
    ∙ ap spans_of (filter-append (counts kind) (of_cluster number xs) (of_cluster number ys))
    ∙ spans_append (filter (counts kind) (of_cluster number xs)) (filter (counts kind) (of_cluster number ys))

pub counted_more : (kind : BackupKind) (number : ℕ) (es : List rust_entry.Entry) (i : ℕ) (e : rust_entry.Entry) (before after found : List Span) → i < length es → e ≡ get_or es i e → before ≡ counted_spans kind number (map entry_of (take i es))
    → found ≡ counted_spans kind number (entry_of e ∷ []) → after ≡ before ++ found → after ≡ counted_spans kind number (map entry_of (take (i + 1) es))
counted_more kind number es i e before after found low is so_far one more =
    let next = map_more entry_of es i e low in
    more ∙ ap (λ (l : List Span). l ++ found) so_far ∙ ap (λ (l : List Span). counted_spans kind number (map entry_of (take i es)) ++ l) one
    ∙ sym (counted_append kind number (map entry_of (take i es)) (entry_of e ∷ []))
    ∙ ap (λ (x : rust_entry.Entry). counted_spans kind number (map entry_of (take i es) ++ entry_of x ∷ [])) is
    ∙ ap (counted_spans kind number) (sym next)

-- for the last kind all count
pub all_count : (es : List Entry) → filter (counts Incr) es ≡ es
all_count [] = refl
all_count (e ∷ es) = ap (λ (l : List Entry). e ∷ l) (all_count es)
