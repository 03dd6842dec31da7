-- A value of `backup.info` of which backups are left: it keeps the rules, and its text isn't longer.
use Rattle.std.proofs.Common.{◌≡◌, inl, inr, ℕ, suc, ◌+◌, ◌≤◌, Bool, true, false, List, [], ◌∷◌, ◌++◌, map, cond, length, length-append, Option, Some, None, refl, ap, ◌∙◌, subst, arith, codes}
use Rattle.std.specs.Prelude.{IfSome, Any, filter}
use Rattle.std.specs.List.{flat_map}
use Rattle.std.proofs.lemmas.Bool.{and_parts, and_from}
use Rattle.std.proofs.lemmas.List.Elements.{filter-append}
use Rattle.base_devices.specs.Order.{is_before, are_after, are_in_order}
use Rattle.base_model.specs.declared.labels.Label.{Label}
use Rattle.base_model.specs.Text.{Text, In}
use Rattle.base_model.specs.Names.{label_text}
use Rattle.base_model.specs.InfoText.{Section, key_line, section_text, info_text}
use Rattle.base_model.specs.Fields.{Field, section}
use Rattle.base_model.specs.InfoFiles.{IsLabel, entry_field, AreListed, IsListedEntry, IsBackupInfo, backup_sections}
use Rattle.base_model.specs.Values.{BackupInfo, Entry}
use Rattle.repo_info.proofs.BackupRules.{listed, db, history, backup_sections_are}
use Rattle.repo_info.proofs.Found.{found}
use Rattle.archive_lookup.proofs.Orders.{before_on}
use Rattle.expire_rules.proofs.Lists.{any_in, filter_in}
use Rattle.repo_stanza.proofs.Lengths.{flat_length, keys_length, fewer_bytes, section_length}

any_from : (P : Entry → Type 0) (es : List Entry) (p : Entry) → In p es → P p → Any P es
any_from P [] p i h = absurd i
any_from P (e ∷ es) p (inl same) h = (0, e, omega arith, refl, subst P same h)
any_from P (e ∷ es) p (inr i) h = let (k, x, less, at, is) = any_from P es p i h in (suc k, x, omega (arith, less), at, is)

module _ (p : Entry → Bool) where
  -- ---- the list

  -- the prior of a backup that is left is left
  abbrev pub PriorsStay : List Entry → Type 0
  PriorsStay es = (e : Entry) → In e es → p e ≡ true → (l : Label) → e.prior ≡ Some l → (x : Entry) → x.label ≡ l → p x ≡ true

  entry_left : (n : ℕ) (earlier es : List Entry) (e : Entry) → In e es → PriorsStay es → p e ≡ true → IsListedEntry n earlier e → IsListedEntry n (filter p earlier) e
  entry_left n earlier es e at stay pass h = record {
    label = h.label;
    kind = h.kind;
    prior = by e.prior refl h.prior;
    references = h.references;
    reference_order = h.reference_order;
    db = h.db;
    span = h.span;
    start = h.start;
    stop = h.stop;
    size = h.size;
    stored = h.stored;
  }
    where
      by : (o : Option Label) → e.prior ≡ o → IfSome o (λ l. IsLabel l × Any (λ (x : Entry). x.label ≡ l) earlier) → IfSome o (λ l. IsLabel l × Any (λ (x : Entry). x.label ≡ l) (filter p earlier))
      by None is h = tt
      by (Some l) is h = let (x, i, same) = any_in (λ (x : Entry). x.label ≡ l) earlier h.1 in (h.0, any_from (λ (x : Entry). x.label ≡ l) (filter p earlier) x (filter_in p x earlier i (stay e at pass l is x same)) same)

  nil : (xs : List Entry) → xs ++ [] ≡ xs
  nil [] = refl
  nil (x ∷ xs) = ap (λ (ys : List Entry). x ∷ ys) (nil xs)

  listed_left : (n : ℕ) (earlier es : List Entry) → PriorsStay es → AreListed n earlier es → AreListed n (filter p earlier) (filter p es)
  listed_left n earlier [] stay h = tt
  listed_left n earlier (e ∷ es) stay h = by (subst (λ (xs : List Entry). AreListed n xs (filter p es)) (filter-append p earlier (e ∷ [])) (listed_left n (earlier ++ e ∷ []) es (λ x i. stay x (inr i)) h.1)) (p e) refl
    where
      by : AreListed n (filter p earlier ++ filter p (e ∷ [])) (filter p es) → (q : Bool) → p e ≡ q → AreListed n (filter p earlier) (cond q (e ∷ filter p es) (filter p es))
      by rest true is = (entry_left n earlier (e ∷ es) e (inl refl) stay is h.0, subst (λ (q : Bool). AreListed n (filter p earlier ++ cond q (e ∷ []) []) (filter p es)) is rest)
      by rest false is = subst (λ (xs : List Entry). AreListed n xs (filter p es)) (nil (filter p earlier)) (subst (λ (q : Bool). AreListed n (filter p earlier ++ cond q (e ∷ []) []) (filter p es)) is rest)

  -- ---- its order

  abbrev to : Entry → Text
  to e = label_text e.label

  skipped : (first next : Text) (names : List Text) → is_before first next ≡ true → are_after next names ≡ true → are_after first names ≡ true
  skipped first next [] before after = refl
  skipped first next (n ∷ names) before after = let parts = and_parts (is_before next n) (are_after n names) after in and_from (is_before first n) (are_after n names) (before_on first next n before parts.0) parts.1

  after_left : (last : Text) (es : List Entry) → are_after last (map to es) ≡ true → are_after last (map to (filter p es)) ≡ true
  after_left last [] h = refl
  after_left last (e ∷ es) h =
      let parts = and_parts (is_before last (to e)) (are_after (to e) (map to es)) h in
      by (after_left (to e) es parts.1) (after_left last es (skipped last (to e) (map to es) parts.0 parts.1)) parts.0 (p e)
    where
      by : are_after (to e) (map to (filter p es)) ≡ true → are_after last (map to (filter p es)) ≡ true → is_before last (to e) ≡ true → (q : Bool) → are_after last (map to (cond q (e ∷ filter p es) (filter p es))) ≡ true
      by with_it without_it first true = and_from (is_before last (to e)) (are_after (to e) (map to (filter p es))) first with_it
      by with_it without_it first false = without_it

  in_order : (last : Text) (names : List Text) → are_after last names ≡ true → are_in_order names ≡ true
  in_order last [] h = refl
  in_order last (n ∷ names) h = (and_parts (is_before last n) (are_after n names) h).1

  order_left : (es : List Entry) → are_in_order (map to es) ≡ true → are_in_order (map to (filter p es)) ≡ true
  order_left [] h = refl
  order_left (e ∷ es) h = by (p e)
    where
      by : (q : Bool) → are_in_order (map to (cond q (e ∷ filter p es) (filter p es))) ≡ true
      by true = after_left (to e) es h
      by false = in_order (to e) (map to (filter p es)) (after_left (to e) es h)

  -- ---- the value

  pub rules_left : (v : BackupInfo) → IsBackupInfo v → PriorsStay v.backups → IsBackupInfo (record { current = v.current; history = v.history; backups = filter p v.backups })
  rules_left v h stay = record {
    clusters = h.clusters;
    numbers = h.numbers;
    current = h.current;
    backups = listed_left (length v.history) [] v.backups stay h.backups;
    order = order_left v.backups h.order;
  }

  keys_left : (es : List Entry) → keys_length (map entry_field (filter p es)) ≤ keys_length (map entry_field es)
  keys_left [] = omega arith
  keys_left (e ∷ es) = by (keys_left es) (p e)
    where
      more : keys_length (map entry_field (e ∷ es)) ≡ length (key_line (entry_field e)) + keys_length (map entry_field es)
      more = length-append (key_line (entry_field e)) (flat_map key_line (map entry_field es))

      by : keys_length (map entry_field (filter p es)) ≤ keys_length (map entry_field es) → (q : Bool) → keys_length (map entry_field (cond q (e ∷ filter p es) (filter p es))) ≤ keys_length (map entry_field (e ∷ es))
      by le true = omega (arith, le, more, length-append (key_line (entry_field e)) (flat_map key_line (map entry_field (filter p es))))
      by le false = omega (arith, le, more)

  sections_le : (name : Text) (ks ls : List Field) → (ls ≡ [] → ks ≡ []) → keys_length ks ≤ keys_length ls → length (flat_map section_text (section name ks)) ≤ length (flat_map section_text (section name ls))
  sections_le name [] ls none le = omega arith
  sections_le name (k ∷ ks) [] none le = let no : ◌≡◌ {A = List Field} (k ∷ ks) [] = none refl in cc
  sections_le name (k ∷ ks) (l ∷ ls) none le =
      omega (arith, le, length-append (section_text (record { name = name; keys = k ∷ ks })) [], length-append (section_text (record { name = name; keys = l ∷ ls })) [], section_length (record { name = name; keys = k ∷ ks }), section_length (record { name = name; keys = l ∷ ls }))

  none_left : (es : List Entry) → map entry_field es ≡ [] → map entry_field (filter p es) ≡ []
  none_left [] e = refl
  none_left (x ∷ es) e = let no : ◌≡◌ {A = List Field} (entry_field x ∷ map entry_field es) [] = e in cc

  pub shorter_text : (v : BackupInfo) → IsBackupInfo v → length (info_text (backup_sections (record { current = v.current; history = v.history; backups = filter p v.backups }))) ≤ length (info_text (backup_sections v))
  shorter_text v h =
      let w : BackupInfo = record { current = v.current; history = v.history; backups = filter p v.backups } in
      let (c, at, rules) = found _ v.history v.current h.clusters h.current.0 h.current.1 in
      let first = backup_sections_are v c (omega (arith, h.current)) at in
      let second = backup_sections_are w c (omega (arith, h.current)) at in
      let tail = db c ∷ history v.history ∷ [] in
      let long : length (flat_map section_text (backup_sections v)) ≡ length (flat_map section_text (listed v.backups)) + length (flat_map section_text tail) = ap (λ (ss : List Section). length (flat_map section_text ss)) first ∙ flat_length section_text (listed v.backups) tail in
      let short : length (flat_map section_text (backup_sections w)) ≡ length (flat_map section_text (listed w.backups)) + length (flat_map section_text tail) = ap (λ (ss : List Section). length (flat_map section_text ss)) second ∙ flat_length section_text (listed w.backups) tail in
      let le = sections_le (codes "backup:current") (map entry_field w.backups) (map entry_field v.backups) (none_left v.backups) (keys_left v.backups) in
      fewer_bytes (backup_sections w) (backup_sections v) (omega (arith, long, short, le))
