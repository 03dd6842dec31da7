-- A list with one backup more keeps the rules of its text.
use Rattle.std.proofs.Common.{◌≡◌, ⊎_elim, inl, inr, ◌<◌, ◌≤◌, ◌+◌, ◌^◌, ℕ, zero, suc, true, List, [], ◌∷◌, ◌++◌, length, map, get_or, Option, Some, None, refl, sym, ◌∙◌, ap, subst, arith, append_assoc}
use Rattle.std.specs.Prelude.{IfSome, Any, option_map}
use Rattle.std.specs.List.{AllByRecursion}
use Rattle.std.proofs.lemmas.List.{map-append, length-map}
use Rattle.base_devices.specs.Order.{is_before, are_after, are_in_order}
use Rattle.base_model.specs.declared.clusters.Cluster.{Cluster}
use Rattle.base_model.specs.declared.labels.Label.{Label}
use Rattle.base_model.specs.declared.wal.Span.{Span}
use Rattle.base_model.specs.declared.wal.WalPart.{WalPart}
use Rattle.base_model.specs.Text.{Text, In}
use Rattle.base_model.specs.Names.{label_text}
use Rattle.base_model.specs.InfoFiles.{IsLabel, IsCluster, IsSegment, IsListedEntry, AreListed, AreFrom, IsBackupInfo}
use Rattle.base_model.specs.ManifestText.{IsWalPart}
use Rattle.base_model.specs.Values.{Entry, BackupInfo, FileEntry, Manifest}
use Rattle.backup_record.specs.declared.manifest_record.Head.{Head}
use Rattle.backup_record.specs.Making.{manifest_with, size_of, stored_of, entry_with, labels_of, AreReferences, list_with, IsListWith}
use Rattle.backup_record.specs.Bounds.{MayFollow}
use Rattle.backup_record.proofs.Made.{map_map, of_map}
use Rattle.backup_record.proofs.Maps.{both}
use Rattle.backup_record.proofs.Sorted.{join}
use Rattle.backup_record.proofs.Totals.{stored_within}

-- ---- elements of lists

pub all_in : {X : Type 0} (P : X → Type 0) (xs : List X) (x : X) → AllByRecursion P xs → In x xs → P x
all_in P [] x all at = absurd at
all_in P (y ∷ ys) x all at = ⊎_elim (λ (e : x ≡ y). subst P (sym e) all.0) (λ (k : In x ys). all_in P ys x all.1 k) at

all_of : {X : Type 0} (P : X → Type 0) (xs : List X) → ((x : X) → In x xs → P x) → AllByRecursion P xs
all_of P [] each = tt
all_of P (x ∷ xs) each = (each x (inl refl), all_of P xs (λ y k. each y (inr k)))

any_in : {X : Type 0} (P : X → Type 0) (xs : List X) (x : X) → In x xs → P x → Any P xs
any_in P [] x at p = absurd at
any_in P (y ∷ ys) x at p = ⊎_elim
    (λ (e : x ≡ y). (0, x, omega arith, sym e, p))
    (λ (k : In x ys). let r = any_in P ys x k p in (suc r.0, r.1, (let less = r.2 in omega (arith, less)), r.3, r.4))
    at

-- the numbers of a history
number_in : (n : ℕ) (ids : List ℕ) (i : ℕ) → AreFrom n ids → In i ids → (n ≤ i) × (i < n + length ids)
number_in n [] i from at = absurd at
number_in n (x ∷ xs) i from at = ⊎_elim
    (λ (e : i ≡ x). (let first = from.0 in (omega (arith, e, first), omega (arith, e, first))))
    (λ (k : In i xs). let r = number_in (n + 1) xs i from.1 k in (let low = r.0 in omega (arith, low), let high = r.1 in omega (arith, high)))
    at

-- ---- one more at the end

listed_push : (n : ℕ) (earlier es : List Entry) (e : Entry) → AreListed n earlier es → IsListedEntry n (earlier ++ es) e → AreListed n earlier (es ++ e ∷ [])
listed_push n earlier [] e all one = (subst (λ (ds : List Entry). IsListedEntry n ds e) (append_nil earlier) one, tt)
  where
    append_nil : (ds : List Entry) → ds ++ [] ≡ ds
    append_nil [] = refl
    append_nil (d ∷ ds) = ap (λ (xs : List Entry). d ∷ xs) (append_nil ds)
listed_push n earlier (d ∷ es) e all one = (all.0, listed_push n (earlier ++ d ∷ []) es e all.1 (subst (λ (ds : List Entry). IsListedEntry n ds e) (sym (append_assoc earlier (d ∷ []) es)) one))

after_push : (last : Text) (ns : List Text) (x : Text) → are_after last ns ≡ true → is_before last x ≡ true → ((n : Text) → In n ns → is_before n x ≡ true) → are_after last (ns ++ x ∷ []) ≡ true
after_push last [] x order here each = join (is_before last x) true here refl
after_push last (n ∷ ns) x order here each =
    let b = both (is_before last n) (are_after n ns) order in
    join (is_before last n) (are_after n (ns ++ x ∷ [])) b.0 (after_push n ns x b.1 (each n (inl refl)) (λ m k. each m (inr k)))

order_push : (ns : List Text) (x : Text) → are_in_order ns ≡ true → ((n : Text) → In n ns → is_before n x ≡ true) → are_in_order (ns ++ x ∷ []) ≡ true
order_push [] x order each = refl
order_push (n ∷ ns) x order each = after_push n ns x order (each n (inl refl)) (λ m k. each m (inr k))

-- each backup of a list has a label
label_in : (n : ℕ) (earlier es : List Entry) (e : Entry) → AreListed n earlier es → In e es → IsLabel e.label
label_in n earlier [] e all at = absurd at
label_in n earlier (d ∷ es) e all at = ⊎_elim (λ (same : e ≡ d). subst (λ (x : Entry). IsLabel x.label) (sym same) all.0.label) (λ (k : In e es). label_in n (earlier ++ d ∷ []) es e all.1 k) at

pub label_of : (n : ℕ) (es : List Entry) (l : Label) → AreListed n [] es → In l (labels_of es) → IsLabel l
label_of n es l all at = let r = of_map (λ (e : Entry). e.label) l es at in subst IsLabel (sym r.2) (label_in n [] es r.0 all r.1)

span_fits : (o : Option WalPart) → IfSome o IsWalPart → IfSome (option_map (λ (w : WalPart). w.span) o) (λ (s : Span). IsSegment s.start × IsSegment s.stop)
span_fits None h = tt
span_fits (Some w) h = (h.start.0, h.stop.0)

module _ (h : Head) (before : BackupInfo) (rules : IsBackupInfo before) (follows : MayFollow h before) where
  pub prior_label : IfSome h.prior IsLabel
  prior_label = by h.prior follows.listed
    where
      by : (o : Option Label) → IfSome o (λ l. In l (labels_of before.backups)) → IfSome o IsLabel
      by None x = tt
      by (Some l) x = label_of (length before.history) before.backups l rules.backups x

  pub own_cluster : IsCluster h.cluster
  own_cluster = all_in IsCluster before.history h.cluster rules.clusters follows.cluster

  listed_prior : IfSome h.prior (λ l. IsLabel l × Any (λ (p : Entry). p.label ≡ l) before.backups)
  listed_prior = by h.prior follows.listed
    where
      by : (o : Option Label) → IfSome o (λ l. In l (labels_of before.backups)) → IfSome o (λ l. IsLabel l × Any (λ (p : Entry). p.label ≡ l) before.backups)
      by None x = tt
      by (Some l) x =
          let r = of_map (λ (e : Entry). e.label) l before.backups x in
          (label_of (length before.history) before.backups l rules.backups x, any_in (λ (p : Entry). p.label ≡ l) before.backups r.0 r.1 (sym r.2))

  number : (1 ≤ h.cluster.id) × (h.cluster.id ≤ length before.history) × (h.cluster.id < 2 ^ 32)
  number =
      let r = number_in 1 (map (λ (c : Cluster). c.id) before.history) h.cluster.id rules.numbers (in_ids before.history follows.cluster) in
      let low = r.0 in
      let high = r.1 in
      let count = length-map before.history (λ (c : Cluster). c.id) in
      (low, omega (arith, high, count), own_cluster.id)
    where
      in_ids : (cs : List Cluster) → In h.cluster cs → In h.cluster.id (map (λ (c : Cluster). c.id) cs)
      in_ids [] k = absurd k
      in_ids (c ∷ cs) k = ⊎_elim (λ (e : h.cluster ≡ c). inl (ap (λ (x : Cluster). x.id) e)) (λ (j : In h.cluster cs). inr (in_ids cs j)) k

  module _ (files : List FileEntry) (folders : List Text) (small : size_of files < 2 ^ 64) (references : List Label) (are : AreReferences before.backups files references) where
    same_labels : map label_text (labels_of before.backups) ≡ map (λ (e : Entry). label_text e.label) before.backups
    same_labels = map_map label_text (λ (e : Entry). e.label) before.backups

    listed : IsListedEntry (length before.history) before.backups (entry_with (manifest_with h files folders) references)
    listed = record {
      label = follows.label;
      kind = refl;
      prior = listed_prior;
      references = all_of IsLabel references (λ l k. label_of (length before.history) before.backups l rules.backups ((are.each l).0 k).0);
      reference_order = are.order (ap are_in_order same_labels ∙ rules.order);
      db = number;
      span = span_fits h.wal follows.wal;
      start = follows.start;
      stop = follows.stop;
      size = small;
      stored = (let a = stored_within files in omega (arith, a, small));
    }

    with_rules : IsBackupInfo (list_with (entry_with (manifest_with h files folders) references) before)
    with_rules = record {
      clusters = rules.clusters;
      numbers = rules.numbers;
      current = rules.current;
      backups = listed_push (length before.history) [] before.backups (entry_with (manifest_with h files folders) references) rules.backups listed;
      order = ap are_in_order (map-append (λ (e : Entry). label_text e.label) before.backups (entry_with (manifest_with h files folders) references ∷ []))
          ∙ order_push (map (λ (e : Entry). label_text e.label) before.backups) (label_text h.label) rules.order
          (λ n k. let r = of_map (λ (e : Entry). label_text e.label) n before.backups k in subst (λ (t : Text). is_before t (label_text h.label) ≡ true) (sym r.2) (follows.later r.0.label (in_labels r.0 before.backups r.1)));
    }
      where
        in_labels : (e : Entry) (es : List Entry) → In e es → In e.label (labels_of es)
        in_labels e [] k = absurd k
        in_labels e (d ∷ es) k = ⊎_elim (λ (same : e ≡ d). inl (ap (λ (x : Entry). x.label) same)) (λ (j : In e es). inr (in_labels e es j)) k

  -- the list with the backup of a manifest keeps its rules
  pub list_rules : (files : List FileEntry) (folders : List Text) → size_of files < 2 ^ 64 → (list : BackupInfo) → IsListWith before (manifest_with h files folders) list → IsBackupInfo list
  list_rules files folders small list x = subst IsBackupInfo (sym x.is) (with_rules files folders small x.references x.are)
