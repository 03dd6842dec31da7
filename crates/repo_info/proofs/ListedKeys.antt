-- Backups that are listed one after another, and the keys that state them.
use Rattle.std.proofs.Common.{◌≡◌, ⊎_elim, inl, inr, ℕ, zero, suc, ◌+◌, ◌<◌, ◌≤◌, true, List, [], ◌∷◌, ◌++◌, map, take, drop, length, get_or, Option, Some, None, refl, sym, ap, ◌∙◌, subst, append_assoc, arith, take-append-drop}
use Rattle.std.specs.Prelude.{IfSome, Any, codes, slice_index_or}
use Rattle.std.proofs.Math.ListN.{drop_of_length-le}
use Rattle.std.proofs.lemmas.Bool.{and_parts}
use Rattle.std.proofs.lemmas.List.{append-nil, map-append, append_cancel_right}
use Rattle.serde_json.specs.Data.{Data}
use Rattle.serde_json.specs.Find.{get}
use Rattle.base_devices.specs.Order.{is_before, are_after, are_in_order}
use Rattle.base_model.specs.declared.labels.Label.{Label}
use Rattle.base_model.specs.Text.{Text, In}
use Rattle.base_model.specs.Fields.{Field, or_null}
use Rattle.base_model.specs.Names.{label_text}
use Rattle.base_model.specs.InfoFiles.{IsLabel, label_value, entry_field, IsListedEntry, AreListed}
use Rattle.base_model.specs.Values.{Entry}
use Rattle.repo_keys.specs.Agree.{KeysAgree, IsOrdered, KeysAgreeBefore}
use Rattle.repo_info.specs.Entries.{IsEntry}
use Rattle.repo_info.specs.BackupForm.{HasLabel, IsList, IsNext, IsWrongBackup}
use Rattle.repo_keys.proofs.ByKey.{both, after_nothing}
use Rattle.repo_info.proofs.EntryParts.{same_label}
use Rattle.repo_info.proofs.EntryRules.{HasLabels-listed}
use Rattle.repo_names.proofs.LabelTexts.{label_text-injective}
use Rattle.repo_keys.proofs.Numbers.{in_map, map_in}
use Rattle.repo_info.proofs.PlainTexts.{label_some}
use Rattle.repo_keys.proofs.Seeking.{opened}
use Rattle.repo_keys.proofs.Sorted.{Before}
use Rattle.repo_keys.proofs.Walked.{in_back, in_parts, prefix_first, following, before_agree, head_not, sorted_prefix}

abbrev pub many : ℕ
many = 4294967296

-- ---- what a listed backup is by itself

pub entry_listed : (clusters : ℕ) (earlier : List Entry) (e : Entry) → IsListedEntry clusters earlier e → IsEntry e
entry_listed clusters earlier e h = record {
  labels = HasLabels-listed clusters earlier e h;
  kind = h.kind;
  reference_order = h.reference_order;
  db = (h.db.0, h.db.2);
  span = h.span;
  start = h.start;
  stop = h.stop;
  size = h.size;
  stored = h.stored;
}

any_in : (P : Entry → Type 0) (es : List Entry) (p : Entry) → In p es → P p → Any P es
any_in P [] p i h = absurd i
any_in P (e ∷ es) p (inl same) h = (0, e, omega arith, refl, subst P same h)
any_in P (e ∷ es) p (inr i) h = let (k, x, less, at, is) = any_in P es p i h in (suc k, x, omega (arith, less), at, is)

at_in : (es : List Entry) (k : ℕ) (x : Entry) → k < length es → slice_index_or es k x ≡ x → In x es
at_in [] k x h is = absurd (omega arith)
at_in (e ∷ es) zero x h is = inl (sym is)
at_in (e ∷ es) (suc k) x h is = inr (at_in es k x (omega arith) is)

in_append : (es fs : List Entry) (x : Entry) → In x es → In x (es ++ fs)
in_append [] fs x i = absurd i
in_append (e ∷ es) fs x (inl same) = inl same
in_append (e ∷ es) fs x (inr i) = inr (in_append es fs x i)

-- ---- one backup more

listed_push : (clusters : ℕ) (earlier es : List Entry) (e : Entry) → AreListed clusters earlier es → IsListedEntry clusters (earlier ++ es) e → AreListed clusters earlier (es ++ e ∷ [])
listed_push clusters earlier [] e h g = (subst (λ (xs : List Entry). IsListedEntry clusters xs e) (append-nil earlier) g, tt)
listed_push clusters earlier (x ∷ xs) e h g = (h.0, listed_push clusters (earlier ++ x ∷ []) xs e h.1 (subst (λ (ys : List Entry). IsListedEntry clusters ys e) (sym (append_assoc earlier (x ∷ []) xs)) g))

-- each is a listed backup after some others
listed_in : (clusters : ℕ) (earlier es : List Entry) (e : Entry) → AreListed clusters earlier es → In e es → IsEntry e
listed_in clusters earlier [] e h i = absurd i
listed_in clusters earlier (x ∷ xs) e h (inl same) = subst IsEntry (sym same) (entry_listed clusters earlier x h.0)
listed_in clusters earlier (x ∷ xs) e h (inr i) = listed_in clusters (earlier ++ x ∷ []) xs e h.1 i

one_with : (es : List Entry) (l : Label) (d : Data) → AreListed many [] es → IsLabel l → In (label_text l, d) (map entry_field es) → Any (λ (p : Entry). p.label ≡ l) es
one_with es l d h rules i =
    let (p, j, same) = map_in entry_field es (label_text l, d) i in
    let own = (listed_in many [] es p h j).labels.label in
    any_in (λ (x : Entry). x.label ≡ l) es p j (label_text-injective p.label l own rules (sym (ap (λ (k : Field). k.0) same)))

prior_listed : (es : List Entry) (o : Option Label) → AreListed many [] es → IfSome o IsLabel → IfSome o (HasLabel (map entry_field es)) → IfSome o (λ l. IsLabel l × Any (λ (p : Entry). p.label ≡ l) es)
prior_listed es None h rules found = tt
prior_listed es (Some l) h rules found = (rules, one_with es l found.0 h rules found.1)

pub next_listed : (es : List Entry) (k : Field) (e : Entry) → AreListed many [] es → IsNext (map entry_field es) k e → AreListed many [] (es ++ e ∷ [])
next_listed es k e h next =
    let r = next.rules in
    let db = r.db in
    listed_push many [] es e h (record {
      label = r.labels.label;
      kind = r.kind;
      prior = prior_listed es e.prior h r.labels.prior next.prior;
      references = r.labels.references;
      reference_order = r.reference_order;
      db = (db.0, omega (arith, db.1), db.1);
      span = r.span;
      start = r.start;
      stop = r.stop;
      size = r.size;
      stored = r.stored;
    })

-- ---- one backup has a field

same_prior : (o p : Option Label) → IfSome o IsLabel → IfSome p IsLabel → or_null label_value o ≡ or_null label_value p → o ≡ p
same_prior None None h g e = refl
same_prior None (Some l) h g e = cc
same_prior (Some l) None h g e = cc
same_prior (Some l) (Some m) h g e = ap (λ (x : Label). Some x) (same_label l m h g e)

same_found : (d e : Data) → ◌≡◌ {A = Option Data} (Some d) (Some e) → d ≡ e
same_found d e h = cc

pub prior_of_field : (e f : Entry) → IsEntry e → IsEntry f → entry_field e ≡ entry_field f → e.prior ≡ f.prior
prior_of_field e f h g same =
    let value : or_null label_value e.prior ≡ or_null label_value f.prior = same_found (or_null label_value e.prior) (or_null label_value f.prior) (ap (λ (k : Field). get (codes "backup-prior") k.1) same) in
    same_prior e.prior f.prior h.labels.prior g.labels.prior value

-- ---- the order

abbrev name : Field → Text
name k = k.0

names_are : (es : List Entry) → map name (map entry_field es) ≡ map (λ (e : Entry). label_text e.label) es
names_are [] = refl
names_are (e ∷ es) = ap (λ (ns : List Text). label_text e.label ∷ ns) (names_are es)

after_order : (last : Text) (ns : List Text) → are_after last ns ≡ true → are_in_order ns ≡ true
after_order last [] h = refl
after_order last (n ∷ ns) h = (and_parts (is_before last n) (are_after n ns) h).1

pub list_order : (es : List Entry) → IsOrdered (map entry_field es) → are_in_order (map (λ (e : Entry). label_text e.label) es) ≡ true
list_order es h = subst (λ (ns : List Text). are_in_order ns ≡ true) (names_are es) (after_order [] (map name (map entry_field es)) h)

pub list_sorted : (fs : List Entry) → IsList fs → IsOrdered (map entry_field fs)
list_sorted [] l = refl
list_sorted (f ∷ fs) l = both (is_before [] (label_text f.label)) _ (after_nothing (label_text f.label) (label_some f.label)) (subst (λ (ns : List Text). are_after (label_text f.label) ns ≡ true) (sym (names_are fs)) l.order)

-- ---- priors come first

-- an earlier backup has this label
record IsEarlier (es : List Entry) (e : Entry) (l : Label) : Type 0 where
  one : Entry
  found : In one es
  is : one.label ≡ l
  before : Before (label_text one.label) (label_text e.label)

earlier_in : (clusters : ℕ) (earlier es : List Entry) (e : Entry) → IsOrdered (map entry_field (earlier ++ es)) → AreListed clusters earlier es → In e es → IfSome e.prior (IsEarlier (earlier ++ es) e)
earlier_in clusters earlier [] e order h i = absurd i
earlier_in clusters earlier (x ∷ xs) e order h (inl same) = subst (λ (y : Entry). IfSome y.prior (IsEarlier (earlier ++ x ∷ xs) y)) (sym same) (by x.prior h.0.prior)
  where
    by : (o : Option Label) → IfSome o (λ l. IsLabel l × Any (λ (p : Entry). p.label ≡ l) earlier) → IfSome o (IsEarlier (earlier ++ x ∷ xs) x)
    by None g = tt
    by (Some l) g =
        let (k, p, less, at, is) = g.1 in
        let i = at_in earlier k p less at in
        let sorted = subst IsOrdered (map-append entry_field earlier (x ∷ xs)) order in
        record {
          one = p;
          found = in_append earlier (x ∷ xs) p i;
          is = is;
          before = prefix_first [] (map entry_field earlier) (map entry_field (x ∷ xs)) (entry_field p) (entry_field x) sorted (in_map entry_field earlier p i) (inl refl);
        }
earlier_in clusters earlier (x ∷ xs) e order h (inr i) =
    let same = append_assoc earlier (x ∷ []) xs in
    subst (λ (ys : List Entry). IfSome e.prior (IsEarlier ys e)) same (earlier_in clusters (earlier ++ x ∷ []) xs e (subst (λ (ys : List Entry). IsOrdered (map entry_field ys)) (sym same) order) h.1 i)

-- ---- a key that is no next backup's

module _ (es : List Entry) (k : Field) (more : List Field) (listed : AreListed many [] es) (order : IsOrdered (map entry_field es ++ k ∷ more)) (none : (e : Entry) → ¬ IsNext (map entry_field es) k e) where
  abbrev prefix : List Field
  prefix = map entry_field es

  so_far : IsList es
  so_far = record { backups = listed; order = list_order es (sorted_prefix [] prefix (k ∷ more) order) }

  not_before_k : (z : Field) → In z (k ∷ more) → Before z.0 k.0 → ⊥
  not_before_k = let (last, own) = following [] prefix (k ∷ more) order in head_not last k more own

  known_before : KeysAgreeBefore prefix (prefix ++ k ∷ more) k.0
  known_before = subst (λ (xs : List Field). KeysAgreeBefore xs (prefix ++ k ∷ more) k.0) (append-nil prefix) (before_agree prefix [] (k ∷ more) k.0 (λ z i b. i) not_before_k)

  -- what comes before the key in a list is in front
  in_front_of : (fs : List Entry) → KeysAgreeBefore (map entry_field fs) (prefix ++ k ∷ more) k.0 → (p : Entry) → In p fs → Before (label_text p.label) k.0 → HasLabel prefix p.label
  in_front_of fs agree p i less =
      let there = (agree (label_text p.label) (before_is less)).there (entry_field p).1 (in_map entry_field fs p i) in
      ((entry_field p).1, ⊎_elim (λ (j : In (entry_field p) prefix). j) (λ (j : In (entry_field p) (k ∷ more)). absurd (not_before_k (entry_field p) j less)) (in_parts prefix (k ∷ more) (entry_field p) there))
    where
      before_is : Before (label_text p.label) k.0 → is_before (label_text p.label) k.0 ≡ true
      before_is b = rw b refl

  is_wrong : (fs : List Entry) → IsList fs → KeysAgreeBefore (map entry_field fs) (prefix ++ k ∷ more) k.0 → ¬ KeysAgree (map entry_field fs) (prefix ++ k ∷ more) k.0
  is_wrong fs list agree same =
      let there = same.back k.1 (in_back prefix (k ∷ more) k (inl refl)) in
      let (e, i, at) = map_in entry_field fs k there in
      let rules = listed_in many [] fs e list.backups i in
      let sorted = list_sorted fs list in
      let prior = earlier_in many [] fs e sorted list.backups i in
      none e (record { rules = rules; field = at; prior = by e.prior e at prior })
    where
      by : (o : Option Label) (e : Entry) → k ≡ entry_field e → IfSome o (IsEarlier fs e) → IfSome o (HasLabel prefix)
      by None e at g = tt
      by (Some l) e at g =
          let less = subst (λ (t : Text). Before (label_text g.one.label) t) (sym (ap name at)) g.before in
          subst (HasLabel prefix) g.is (in_front_of fs agree g.one g.found less)

  pub wrong_backup : IsWrongBackup (prefix ++ k ∷ more) k.0
  wrong_backup = record { known = (es, so_far, known_before); wrong = is_wrong }

-- ---- a walk along the keys

-- the backups so far, and the keys to come
abbrev pub IsSoFar : {X : Type 0} → (X → Field) → List Entry → List X → ℕ → Type 0
IsSoFar f es xs i = map entry_field es ++ map f (drop i xs) ≡ map f xs

module _ {X : Type 0} (f : X → Field) (es : List Entry) (xs : List X) (i : ℕ) (read : IsSoFar f es xs i) where
  -- the keys so far are those of the backups so far
  pub prefix_is : map f (take i xs) ≡ map entry_field es
  prefix_is = append_cancel_right (map f (take i xs)) (map entry_field es) (map f (drop i xs)) (sym (map-append f (take i xs) (drop i xs)) ∙ ap (map f) (take-append-drop i xs) ∙ sym read)

  pub prefix_ordered : IsOrdered (map f xs) → IsOrdered (map f (take i xs))
  prefix_ordered order = subst IsOrdered (sym prefix_is) (sorted_prefix [] (map entry_field es) (map f (drop i xs)) (subst IsOrdered (sym read) order))

  module _ (x : X) (less : i < length xs) (is : x ≡ get_or xs i x) where
    whole_is : map entry_field es ++ f x ∷ map f (drop (i + 1) xs) ≡ map f xs
    whole_is = sym (ap (λ (l : List X). map entry_field es ++ map f l) (opened f xs i x less is)) ∙ read

    pub item_in : In (f x) (map f xs)
    item_in = subst (λ (ks : List Field). In (f x) ks) whole_is (in_back (map entry_field es) (f x ∷ map f (drop (i + 1) xs)) (f x) (inl refl))

    pub step_read : (e : Entry) → f x ≡ entry_field e → IsSoFar f (es ++ e ∷ []) xs (i + 1)
    step_read e same =
        let more = map f (drop (i + 1) xs) in
        ap (λ (l : List Field). l ++ more) (map-append entry_field es (e ∷ [])) ∙ append_assoc (map entry_field es) (entry_field e ∷ []) more ∙ ap (λ (k : Field). map entry_field es ++ k ∷ more) (sym same) ∙ whole_is

    pub step_listed : (e : Entry) → AreListed many [] es → IsNext (map f (take i xs)) (f x) e → AreListed many [] (es ++ e ∷ [])
    step_listed e listed next = next_listed es (f x) e listed (subst (λ (ks : List Field). IsNext ks (f x) e) prefix_is next)

    pub step_wrong : AreListed many [] es → IsOrdered (map f xs) → ((e : Entry) → ¬ IsNext (map f (take i xs)) (f x) e) → IsWrongBackup (map f xs) (f x).0
    step_wrong listed order none =
        let here = subst (λ (ks : List Field). (e : Entry) → ¬ IsNext ks (f x) e) prefix_is none in
        subst (λ (ks : List Field). IsWrongBackup ks (f x).0) whole_is (wrong_backup es (f x) (map f (drop (i + 1) xs)) listed (subst IsOrdered (sym whole_is) order) here)

  pub walk_done : length xs ≤ i → map f xs ≡ map entry_field es
  walk_done h = sym (sym (append-nil (map entry_field es)) ∙ ap (λ (l : List X). map entry_field es ++ map f l) (sym (drop_of_length-le xs h)) ∙ read)

pub list_of_keys : (es : List Entry) (ks : List Field) → AreListed many [] es → IsOrdered ks → ks ≡ map entry_field es → IsList es
list_of_keys es ks listed order is = record { backups = listed; order = list_order es (subst IsOrdered is order) }
