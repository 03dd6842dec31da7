-- From the faults of its sections to those of `backup.info`.
use Rattle.std.proofs.Common.{◌≡◌, ◌≢◌, ◌⊎◌, ⊎_elim, inl, inr, ℕ, ◌+◌, ◌-◌, ◌<◌, ◌≤◌, ◌^◌, List, [], ◌∷◌, ◌++◌, map, length, Option, Some, refl, sym, ap, ap₂, ◌∙◌, subst, arith, decimal, lit<}
use Rattle.std.specs.Prelude.{codes, max, true}
use Rattle.std.proofs.lemmas.Fmt.{decimal_digit}
use Rattle.std.proofs.lemmas.List.{length-map}
use Rattle.serde_json.specs.Data.{Data}
use Rattle.serde_json.specs.Find.{get}
use Rattle.base_model.specs.declared.clusters.Cluster.{Cluster}
use Rattle.base_model.specs.Text.{Text, In}
use Rattle.base_model.specs.InfoText.{Section, IsSection, IsInfo, head_name, has_keys}
use Rattle.base_model.specs.Fields.{Field, by_key, at_number, whole}
use Rattle.base_model.specs.InfoFiles.{IsCluster, cluster_fields, cluster_field, entry_field, backup_sections, IsBackupInfo}
use Rattle.base_model.specs.Values.{Entry, BackupInfo}
use Rattle.repo_keys.specs.Agree.{HasKey, AgreeAt, KeysAgree, IsOrdered, db as db_name, db_history, IsKeysOf}
use Rattle.repo_info.specs.BackupForm.{backup_current, own_id, backup_names, highest, AgreeIn, AgreeBefore, HasClusters, HasBefore, IsBackupForm, IsList, IsWrongBackup, IsWrongCluster}
use Rattle.repo_info.specs.History.{IsHistory, IsWrongHistory}
use Rattle.repo_info.proofs.BackupRules.{listed, db, history, backup_sections_are, backup_is_info}
use Rattle.repo_info.proofs.ClusterFields.{same_cluster}
use Rattle.repo_keys.proofs.Scalars.{same_number}
use Rattle.repo_info.proofs.ListedKeys.{many, list_sorted}
use Rattle.repo_keys.proofs.Numbers.{all_in, in_map, entry_at, read_at}
use Rattle.repo_keys.proofs.Sorted.{Sorted, unique, fits, same_list, by_key_in, length_by_key}
use Rattle.repo_info.proofs.BackupBuilt.{copies_length, copies_at, built, listed_as, listed_wide, highest_within, highest_small, built_rules}

-- ---- the sections of a value

pub record Shape (v : BackupInfo) : Type 0 where
  pub current : Cluster
  pub at : at_number v.current v.history ≡ Some current
  pub rules : IsCluster current
  pub low : 1 ≤ current.id
  pub numbered : current.id ≡ v.current
  pub are : backup_sections v ≡ listed v.backups ++ db current ∷ history v.history ∷ []

pub shape : (v : BackupInfo) → IsBackupInfo v → Shape v
shape v h =
    let (c, at, i, same) = read_at own_id v.history 1 v.current h.numbers h.current.0 (omega (arith, h.current.1)) in
    let kept : 0 < length v.history = omega (arith, h.current.0, h.current.1) in
    let low = h.current.0 in
    record { current = c; at = at; rules = all_in IsCluster v.history c h.clusters i; low = omega (arith, low, same); numbered = same; are = backup_sections_are v c kept at }

-- the sections have these keys under this name
record Shows (ss : List Section) (name : Text) (ks : List Field) : Type 0 where
  in_keys : (key : Text) (d : Data) → HasKey ss name key d → In (key, d) ks
  keys_in : (key : Text) (d : Data) → In (key, d) ks → HasKey ss name key d

module _ (vs ss : List Section) (n : Text) (xs ks : List Field) (one : Shows vs n xs) (two : Shows ss n ks) (key : Text) where
  agree_to : KeysAgree xs ks key → AgreeAt vs ss n key
  agree_to a = record { there = λ d h. two.keys_in key d (a.there d (one.in_keys key d h)); back = λ d h. one.keys_in key d (a.back d (two.in_keys key d h)) }

  agree_from : AgreeAt vs ss n key → KeysAgree xs ks key
  agree_from a = record { there = λ d i. two.in_keys key d (a.there d (one.keys_in key d i)); back = λ d i. one.in_keys key d (a.back d (two.keys_in key d i)) }

listed_not_db : backup_current ≡ db_name → ⊥
listed_not_db e = cc

listed_not_history : backup_current ≡ db_history → ⊥
listed_not_history e = cc

db_not_history : db_name ≡ db_history → ⊥
db_not_history e = cc

-- one of the three
record IsListed (es : List Entry) (s : Section) : Type 0 where
  name : s.name ≡ backup_current
  keys : s.keys ≡ map entry_field es

one_of : (es : List Entry) (d h s : Section) → In s (listed es ++ d ∷ h ∷ []) → IsListed es s ⊎ ((s ≡ d) ⊎ (s ≡ h))
one_of [] d h s (inl e) = inr (inl e)
one_of [] d h s (inr (inl e)) = inr (inr e)
one_of [] d h s (inr (inr none)) = absurd none
one_of (x ∷ es) d h s (inl e) = inl (record { name = ap (λ (t : Section). t.name) e; keys = ap (λ (t : Section). t.keys) e })
one_of (x ∷ es) d h s (inr (inl e)) = inr (inl e)
one_of (x ∷ es) d h s (inr (inr (inl e))) = inr (inr e)
one_of (x ∷ es) d h s (inr (inr (inr none))) = absurd none

listed_has : (es : List Entry) (d h : Section) (key : Text) (v : Data) → In (key, v) (map entry_field es) → HasKey (listed es ++ d ∷ h ∷ []) backup_current key v
listed_has [] d h key v i = absurd i
listed_has (x ∷ es) d h key v i = record { at = record { name = backup_current; keys = map entry_field (x ∷ es) }; found = inl refl; named = refl; holds = i }

second_in : (es : List Entry) (d h : Section) → In d (listed es ++ d ∷ h ∷ [])
second_in [] d h = inl refl
second_in (x ∷ es) d h = inr (inl refl)

third_in : (es : List Entry) (d h : Section) → In h (listed es ++ d ∷ h ∷ [])
third_in [] d h = inr (inl refl)
third_in (x ∷ es) d h = inr (inr (inl refl))

module _ (v : BackupInfo) (s : Shape v) where
  abbrev three : List Section
  three = listed v.backups ++ db s.current ∷ history v.history ∷ []

  shows_as : (n : Text) (ks : List Field) → Shows three n ks → Shows (backup_sections v) n ks
  shows_as n ks t = subst (λ (ss : List Section). Shows ss n ks) (sym s.are) t

  by_name : (n key : Text) (d : Data) (P : Type 0) → HasKey three n key d → (n ≡ backup_current → In (key, d) (map entry_field v.backups) → P) → (n ≡ db_name → In (key, d) (cluster_fields s.current) → P) → (n ≡ db_history → In (key, d) (by_key (map cluster_field v.history)) → P) → P
  by_name n key d P h first second third = ⊎_elim
      (λ (l : IsListed v.backups h.at). first (sym h.named ∙ l.name) (subst (λ (ks : List Field). In (key, d) ks) l.keys h.holds))
      (λ others. ⊎_elim
      (λ (e : h.at ≡ db s.current). second (sym h.named ∙ ap (λ (t : Section). t.name) e) (subst (λ (t : Section). In (key, d) t.keys) e h.holds))
      (λ (e : h.at ≡ history v.history). third (sym h.named ∙ ap (λ (t : Section). t.name) e) (subst (λ (t : Section). In (key, d) t.keys) e h.holds))
      others)
      (one_of v.backups (db s.current) (history v.history) h.at h.found)

  shows_listed : Shows (backup_sections v) backup_current (map entry_field v.backups)
  shows_listed = shows_as backup_current (map entry_field v.backups) (record {
    in_keys = λ key d h. by_name backup_current key d (In (key, d) (map entry_field v.backups)) h (λ e i. i) (λ e i. absurd (listed_not_db e)) (λ e i. absurd (listed_not_history e));
    keys_in = λ key d i. listed_has v.backups (db s.current) (history v.history) key d i;
  })

  shows_db : Shows (backup_sections v) db_name (cluster_fields s.current)
  shows_db = shows_as db_name (cluster_fields s.current) (record {
    in_keys = λ key d h. by_name db_name key d (In (key, d) (cluster_fields s.current)) h (λ e i. absurd (listed_not_db (sym e))) (λ e i. i) (λ e i. absurd (db_not_history e));
    keys_in = λ key d i. record { at = db s.current; found = second_in v.backups (db s.current) (history v.history); named = refl; holds = i };
  })

  shows_history : Shows (backup_sections v) db_history (by_key (map cluster_field v.history))
  shows_history = shows_as db_history (by_key (map cluster_field v.history)) (record {
    in_keys = λ key d h. by_name db_history key d (In (key, d) (by_key (map cluster_field v.history))) h (λ e i. absurd (listed_not_history (sym e))) (λ e i. absurd (db_not_history (sym e))) (λ e i. i);
    keys_in = λ key d i. record { at = history v.history; found = third_in v.backups (db s.current) (history v.history); named = refl; holds = i };
  })

  model : (n key : Text) (d : Data) → HasKey (backup_sections v) n key d → In n backup_names
  model n key d h = by_name n key d (In n backup_names) (subst (λ (ss : List Section). HasKey ss n key d) s.are h) (λ e i. inl e) (λ e i. inr (inl e)) (λ e i. inr (inr (inl e)))

  own_clusters : HasClusters v (backup_sections v)
  own_clusters t i named = ⊎_elim
      (λ (l : IsListed v.backups t). absurd (listed_not_history (sym l.name ∙ named)))
      (λ others. ⊎_elim
      (λ (e : t ≡ db s.current). absurd (db_not_history (sym (ap (λ (x : Section). x.name) e) ∙ named)))
      (λ (e : t ≡ history v.history).
      let keys : length t.keys ≡ length (by_key (map cluster_field v.history)) = ap (λ (x : Section). length x.keys) e in
      omega (arith, keys, length_by_key (map cluster_field v.history), length-map v.history cluster_field))
      others)
      (one_of v.backups (db s.current) (history v.history) t (subst (λ (ss : List Section). In t ss) s.are i))

-- ---- the faults

same_at : (ss : List Section) (n key : Text) → AgreeAt ss ss n key
same_at ss n key = record { there = λ d h. h; back = λ d h. h }

abbrev WrongAt : List Section → Text → Text → Type 0
WrongAt ss n key = (v : BackupInfo) → IsBackupInfo v → HasBefore v ss n key → ¬ AgreeAt (backup_sections v) ss n key

none_from : (ss : List Section) (n key : Text) → WrongAt ss n key → (v : BackupInfo) → IsBackupInfo v → backup_sections v ≢ ss
none_from ss n key wrong v rules same =
    let agree = λ (m k : Text). subst (λ (xs : List Section). AgreeAt (backup_sections v) xs m k) same (same_at (backup_sections v) m k) in
    wrong v rules (record {
      listed = λ e k b. agree backup_current k;
      current = λ e. (λ k. agree backup_current k, λ k b. agree db_name k);
      history = λ e. (λ k. agree backup_current k, λ k. agree db_name k, subst (HasClusters v) same (own_clusters v (shape v rules)));
    }) (agree n key)

form_of : (ss : List Section) (n key : Text) → (v : BackupInfo) × IsBackupInfo v × HasBefore v ss n key → WrongAt ss n key → IsBackupForm ss n key
form_of ss n key known wrong = record { none = none_from ss n key wrong; known = known; wrong = wrong }

-- lists in order that agree at each key are the same
all_agree : (xs ys : List Field) → IsOrdered xs → IsOrdered ys → ((key : Text) → KeysAgree xs ys key) → xs ≡ ys
all_agree xs ys h g agree = same_list (λ (k : Field). k.0) [] [] xs ys h g (λ z i. (agree z.0).back z.1 i) (fits (λ (k : Field). k.0) [] [] ys xs g h (λ z i. (agree z.0).there z.1 i))

same_found : (d e : Data) → ◌≡◌ {A = Option Data} (Some d) (Some e) → d ≡ e
same_found d e h = cc

db_of_field : (a b : Entry) → entry_field a ≡ entry_field b → a.db ≡ b.db
db_of_field a b same = same_number a.db b.db (same_found (whole a.db) (whole b.db) (ap (λ (k : Field). get (codes "db-id") k.1) same))

highest_of_fields : (xs ys : List Entry) → map entry_field xs ≡ map entry_field ys → highest xs ≡ highest ys
highest_of_fields [] [] e = refl
highest_of_fields [] (b ∷ ys) e = cc
highest_of_fields (a ∷ xs) [] e = cc
highest_of_fields (a ∷ xs) (b ∷ ys) e =
    let head : entry_field a ≡ entry_field b = cc in
    let rest : map entry_field xs ≡ map entry_field ys = cc in
    ap₂ max (db_of_field a b head) (highest_of_fields xs ys rest)

first_cluster : Cluster
first_cluster = record { id = 1; system = 0; version = 0; control = 0; catalog = 0 }

first_rules : IsCluster first_cluster
unfolding first_cluster
first_rules = record { id = lit< tt; system = lit< tt; version = lit< tt; control = lit< tt; catalog = lit< tt }

first_id : first_cluster.id ≡ 1
unfolding first_cluster
first_id = refl

some_same : (a b : Cluster) → ◌≡◌ {A = Option Cluster} (Some a) (Some b) → a ≡ b
some_same a b e = cc

no_keys : (ks : List Field) → ks ≡ [] → has_keys ks ≡ true → ⊥
no_keys [] e h = cc h
no_keys (k ∷ ks) e h = cc e

module _ (ss : List Section) (info : IsInfo ss) where
  same_section : (p q : Section) → In p ss → In q ss → p.name ≡ q.name → p ≡ q
  same_section p q i j e = unique (λ (s : Section). s.name) head_name ss p q info.order i j e

  shows_keys : (n : Text) (ks : List Field) → IsKeysOf ss n ks → Shows ss n ks
  shows_keys n ks (inl i) = record {
    in_keys = λ key d h. subst (λ (s : Section). In (key, d) s.keys) (same_section h.at (record { name = n; keys = ks }) h.found i h.named) h.holds;
    keys_in = λ key d j. record { at = record { name = n; keys = ks }; found = i; named = refl; holds = j };
  }
  shows_keys n ks (inr none) = record {
    in_keys = λ key d h. absurd (none.0 h.at h.found h.named);
    keys_in = λ key d j. absurd (subst (λ (xs : List Field). In (key, d) xs) none.1 j);
  }

  -- a wrong key of `backup:current`
  pub listed_form : (ks : List Field) (key : Text) → IsKeysOf ss backup_current ks → IsWrongBackup ks key → IsBackupForm ss backup_current key
  listed_form ks key of wrong = form_of ss backup_current key (v, rules, record { listed = λ e k b. agree_to (backup_sections v) ss backup_current (map entry_field es) ks (shows_listed v (shape v rules)) two k (wrong.known.2 k b); current = λ e. absurd (listed_not_db e); history = λ e. absurd (listed_not_history e) }) here
    where
      es : List Entry
      es = wrong.known.0

      two : Shows ss backup_current ks
      two = shows_keys backup_current ks of

      v : BackupInfo
      v = built wrong.known.0 first_cluster (max 1 (highest wrong.known.0))

      rules : IsBackupInfo v
      rules =
          let list = wrong.known.1 in
          let small = highest_small many [] wrong.known.0 list.backups in
          built_rules wrong.known.0 first_cluster (max 1 (highest wrong.known.0)) list first_rules (omega (arith, first_id)) (omega (arith, first_id)) (omega arith) (omega (arith, small))

      here : WrongAt ss backup_current key
      here w r before agree =
          let one = shows_listed w (shape w r) in
          wrong.wrong w.backups (record { backups = listed_wide (length w.history) [] w.backups r.backups; order = r.order })
          (λ k b. agree_from (backup_sections w) ss backup_current (map entry_field w.backups) ks one two k (before.listed refl k b))
          (agree_from (backup_sections w) ss backup_current (map entry_field w.backups) ks one two key agree)

  -- a section that no value has
  pub foreign_form : (p : Section) (key : Text) (d : Data) → In p ss → ¬ In p.name backup_names → In (key, d) p.keys → IsBackupForm ss p.name key
  foreign_form p key d i other there = form_of ss p.name key (v, rules, record { listed = λ e. absurd (other (inl e)); current = λ e. absurd (other (inr (inl e))); history = λ e. absurd (other (inr (inr (inl e)))) }) here
    where
      v : BackupInfo
      v = built [] first_cluster 1

      rules : IsBackupInfo v
      rules = built_rules [] first_cluster 1 (record { backups = tt; order = refl }) first_rules (omega (arith, first_id)) (omega (arith, first_id)) (omega arith) (omega arith)

      here : WrongAt ss p.name key
      here w r before agree = other (model w (shape w r) p.name key d (agree.back d (record { at = p; found = i; named = refl; holds = there })))

  module _ (es : List Entry) (list : IsList es) (of : IsKeysOf ss backup_current (map entry_field es)) where
    listed_shows : Shows ss backup_current (map entry_field es)
    listed_shows = shows_keys backup_current (map entry_field es) of

    -- a value with these backups has them
    listed_agrees : (v : BackupInfo) → IsBackupInfo v → v.backups ≡ es → AgreeIn v ss backup_current
    listed_agrees v r same key =
        let alike : KeysAgree (map entry_field v.backups) (map entry_field es) key = subst (λ (xs : List Entry). KeysAgree (map entry_field xs) (map entry_field es) key) (sym same) (record { there = λ d i. i; back = λ d i. i }) in
        agree_to (backup_sections v) ss backup_current (map entry_field v.backups) (map entry_field es) (shows_listed v (shape v r)) listed_shows key alike

    -- a wrong key of `db`
    pub db_form : (ks : List Field) (key : Text) → IsKeysOf ss db_name ks → IsWrongCluster ks key → IsBackupForm ss db_name key
    db_form ks key has wrong = form_of ss db_name key (v, rules, record { listed = λ e. absurd (listed_not_db (sym e)); current = λ e. (listed_agrees v rules refl, before_here); history = λ e. absurd (db_not_history e) }) here
      where
        two : Shows ss db_name ks
        two = shows_keys db_name ks has

        v : BackupInfo
        v = built es wrong.known.0 (max wrong.known.0.id (highest es))

        rules : IsBackupInfo v
        rules =
            let c = wrong.known.0 in
            let r = wrong.known.1 in
            let low = wrong.known.2 in
            let small = highest_small many [] es list.backups in
            let id = r.id in
            built_rules es c (max c.id (highest es)) list r low (omega arith) (omega arith) (omega (arith, small, id))

        before_here : AgreeBefore v ss db_name key
        before_here earlier b =
            let s = shape v rules in
            let c = wrong.known.0 in
            let same : s.current ≡ c = some_same s.current c (sym s.at ∙ copies_at 1 (max c.id (highest es)) (c.id - 1) c (let low = wrong.known.2 in omega (arith, low)) (let low = wrong.known.2 in omega (arith, low))) in
            agree_to (backup_sections v) ss db_name (cluster_fields s.current) ks (shows_db v s) two earlier (subst (λ (x : Cluster). KeysAgree (cluster_fields x) ks earlier) (sym same) (wrong.known.3 earlier b))

        here : WrongAt ss db_name key
        here w r before agree =
            let s = shape w r in
            wrong.wrong s.current s.rules s.low (agree_from (backup_sections w) ss db_name (cluster_fields s.current) ks (shows_db w s) two key agree)

    module _ (c : Cluster) (rules_of : IsCluster c) (low : 1 ≤ c.id) (has : IsKeysOf ss db_name (cluster_fields c)) where
      db_shows : Shows ss db_name (cluster_fields c)
      db_shows = shows_keys db_name (cluster_fields c) has

      -- a value with these backups and this cluster, and with this many clusters
      module _ (n : ℕ) (within : c.id ≤ n) (few : highest es ≤ n) (small : n < 2 ^ 32) where
        known_rules : IsBackupInfo (built es c n)
        known_rules = built_rules es c n list rules_of low within few small

        known_db : AgreeIn (built es c n) ss db_name
        known_db key =
            let v = built es c n in
            let s = shape v known_rules in
            let same : s.current ≡ c = some_same s.current c (sym s.at ∙ copies_at 1 n (c.id - 1) c (omega (arith, low, within)) (omega (arith, low))) in
            agree_to (backup_sections v) ss db_name (cluster_fields s.current) (cluster_fields c) (shows_db v s) db_shows key
            (subst (λ (x : Cluster). KeysAgree (cluster_fields x) (cluster_fields c) key) (sym same) (record { there = λ d i. i; back = λ d i. i }))

        known_history : (key : Text) → HasClusters (built es c n) ss → HasBefore (built es c n) ss db_history key
        known_history key clusters = record {
          listed = λ e. absurd (listed_not_history (sym e));
          current = λ e. absurd (db_not_history (sym e));
          history = λ e. (listed_agrees (built es c n) known_rules refl, known_db, clusters);
        }

      -- the value has the same backups and the same cluster
      same_backups : (w : BackupInfo) (r : IsBackupInfo w) → AgreeIn w ss backup_current → map entry_field w.backups ≡ map entry_field es
      same_backups w r agree =
          let own : IsList w.backups = record { backups = listed_wide (length w.history) [] w.backups r.backups; order = r.order } in
          all_agree (map entry_field w.backups) (map entry_field es) (list_sorted w.backups own) (list_sorted es list)
          (λ key. agree_from (backup_sections w) ss backup_current (map entry_field w.backups) (map entry_field es) (shows_listed w (shape w r)) listed_shows key (agree key))

      same_current : (w : BackupInfo) (r : IsBackupInfo w) → AgreeIn w ss db_name → (shape w r).current ≡ c
      same_current w r agree =
          let s = shape w r in
          same_cluster s.current c s.rules rules_of (all_agree (cluster_fields s.current) (cluster_fields c) refl refl (λ key. agree_from (backup_sections w) ss db_name (cluster_fields s.current) (cluster_fields c) (shows_db w s) db_shows key (agree key)))

      -- no section of the history
      pub no_history : ((s : Section) → In s ss → s.name ≢ db_history) → IsBackupForm ss db_history (codes "1")
      no_history none = form_of ss db_history (codes "1") (v, known_rules (max c.id (highest es)) (omega arith) (omega arith) fits_in, known_history (max c.id (highest es)) (omega arith) (omega arith) fits_in (codes "1") (λ s i named. absurd (none s i named))) here
        where
          v : BackupInfo
          v = built es c (max c.id (highest es))

          fits_in : max c.id (highest es) < 2 ^ 32
          fits_in = let small = highest_small many [] es list.backups in let id = rules_of.id in omega (arith, small, id)

          here : WrongAt ss db_history (codes "1")
          here w r before agree =
              let s = shape w r in
              let (e, i, same) = entry_at own_id w.history 1 1 r.numbers (omega arith) (omega (arith, r.current.0, r.current.1)) in
              let one : decimal e.id ≡ codes "1" = ap decimal same ∙ decimal_digit 1 (omega arith) in
              let there = by_key_in (map cluster_field w.history) (cluster_field e) (in_map cluster_field w.history e i) in
              let h = agree.there (cluster_field e).1 ((shows_history w s).keys_in (codes "1") (cluster_field e).1 (subst (λ (k : Text). In (k, (cluster_field e).1) (by_key (map cluster_field w.history))) one there)) in
              none h.at h.found h.named

      module _ (past : Section) (i : In past ss) (named : past.name ≡ db_history) (few : length past.keys < 2 ^ 32) (least : ℕ) (is : least ≡ max (highest es) c.id) where
        past_shows : Shows ss db_history past.keys
        past_shows = shows_keys db_history past.keys (inl (subst (λ (n : Text). In (record { name = n; keys = past.keys }) ss) named i))

        abbrev all : ℕ
        all = max (max c.id (highest es)) (length past.keys)

        all_small : all < 2 ^ 32
        all_small = let small = highest_small many [] es list.backups in let id = rules_of.id in omega (arith, small, id, few)

        all_clusters : HasClusters (built es c all) ss
        all_clusters s j n =
            let same = ap (λ (x : Section). length x.keys) (same_section s past j i (n ∙ sym named)) in
            let long = copies_length 1 all c in
            omega (arith, same, long)

        -- a wrong key of the history
        pub history_form : (key : Text) → IsWrongHistory IsCluster own_id cluster_field c least past.keys key → IsBackupForm ss db_history key
        history_form key wrong = form_of ss db_history key (built es c all, known_rules all (omega arith) (omega arith) all_small, known_history all (omega arith) (omega arith) all_small key all_clusters) here
          where
            here : WrongAt ss db_history key
            here w r before agree =
                let s = shape w r in
                let m = before.history refl in
                let current = same_current w r m.1 in
                let backups = highest_of_fields w.backups es (same_backups w r m.0) in
                let top = highest_within (length w.history) [] w.backups r.backups in
                let number : c.id ≡ w.current = ap own_id (sym current) ∙ s.numbered in
                let is_history : IsHistory IsCluster own_id cluster_field c least (length past.keys) w.history = record {
                  clusters = r.clusters;
                  numbers = r.numbers;
                  at = ap (λ (n : ℕ). at_number n w.history) number ∙ s.at ∙ ap (λ (x : Cluster). Some x) current;
                  within = let high = r.current.1 in omega (arith, is, backups, top, number, high);
                  long = m.2 past i named;
                } in
                wrong w.history is_history (agree_from (backup_sections w) ss db_history (by_key (map cluster_field w.history)) past.keys (shows_history w s) past_shows key agree)

        -- ---- the value

        module _ (h : List Cluster) (has_history : IsHistory IsCluster own_id cluster_field c least (length past.keys) h) (keys : past.keys ≡ by_key (map cluster_field h)) (only : (s : Section) → In s ss → In s.name backup_names) where
          abbrev value : BackupInfo
          value = record { current = c.id; history = h; backups = es }

          pub value_rules : IsBackupInfo value
          value_rules =
              let within = has_history.within in
              record {
                clusters = has_history.clusters;
                numbers = has_history.numbers;
                current = (low, omega (arith, within, is));
                backups = listed_as (length h) many [] es (omega (arith, within, is)) list.backups;
                order = list.order;
              }

          past_is : past ≡ history h
          past_is = let r : ◌≡◌ {A = Section} (record { name = past.name; keys = past.keys }) (record { name = db_history; keys = by_key (map cluster_field h) }) = rw (named, keys) refl in r

          db_there : IsKeysOf ss db_name (cluster_fields c) → In (db c) ss
          db_there (inl j) = j
          db_there (inr none) = cc (none.1)

          listed_back : (fs : List Entry) (z : Section) → IsKeysOf ss backup_current (map entry_field fs) → In z ss → z.name ≡ backup_current → In z (listed fs ++ db c ∷ history h ∷ [])
          listed_back [] z (inl j) k e = absurd (empty_keys (record { name = backup_current; keys = [] }) j refl)
            where
              empty_keys : (s : Section) → In s ss → s.keys ≡ [] → ⊥
              empty_keys s j e = let some = (all_in IsSection ss s info.sections j).some in no_keys s.keys e some
          listed_back [] z (inr none) k e = absurd (none.0 z k e)
          listed_back (f ∷ fs) z (inl j) k e = inl (same_section z (record { name = backup_current; keys = map entry_field (f ∷ fs) }) k j e)
          listed_back (f ∷ fs) z (inr none) k e = cc (none.1)

          listed_forth : (fs : List Entry) (z : Section) → IsKeysOf ss backup_current (map entry_field fs) → In z (listed fs ++ db c ∷ history h ∷ []) → In z ss
          listed_forth [] z j (inl e) = subst (λ (s : Section). In s ss) (sym e) (db_there has)
          listed_forth [] z j (inr (inl e)) = subst (λ (s : Section). In s ss) (past_is ∙ sym e) i
          listed_forth [] z j (inr (inr none)) = absurd none
          listed_forth (f ∷ fs) z (inl j) (inl e) = subst (λ (s : Section). In s ss) (sym e) j
          listed_forth (f ∷ fs) z (inr none) (inl e) = cc (none.1)
          listed_forth (f ∷ fs) z j (inr (inl e)) = subst (λ (s : Section). In s ss) (sym e) (db_there has)
          listed_forth (f ∷ fs) z j (inr (inr (inl e))) = subst (λ (s : Section). In s ss) (past_is ∙ sym e) i
          listed_forth (f ∷ fs) z j (inr (inr (inr none))) = absurd none

          back : (z : Section) → In z ss → In z (listed es ++ db c ∷ history h ∷ [])
          back z j = ⊎_elim
              (λ (e : z.name ≡ backup_current). listed_back es z of j e)
              (λ others. ⊎_elim
              (λ (e : z.name ≡ db_name). subst (λ (s : Section). In s (listed es ++ db c ∷ history h ∷ [])) (sym (same_section z (db c) j (db_there has) e)) (second_in es (db c) (history h)))
              (λ rest. ⊎_elim
              (λ (e : z.name ≡ db_history). subst (λ (s : Section). In s (listed es ++ db c ∷ history h ∷ [])) (sym (same_section z past j i (e ∙ sym named) ∙ past_is)) (third_in es (db c) (history h)))
              (λ (none : ⊥). absurd none)
              rest)
              others)
              (only z j)

          pub value_sections : backup_sections value ≡ ss
          value_sections =
              let own = backup_is_info value value_rules in
              let within = has_history.within in
              let kept : 0 < length h = omega (arith, low, within, is) in
              let are = backup_sections_are value c kept has_history.at in
              let order = subst (λ (xs : List Section). Sorted (λ (s : Section). s.name) head_name xs) are own.order in
              let few = fits (λ (s : Section). s.name) head_name head_name (listed es ++ db c ∷ history h ∷ []) ss order info.order back in
              are ∙ sym (same_list (λ (s : Section). s.name) head_name head_name ss (listed es ++ db c ∷ history h ∷ []) info.order order (λ z j. listed_forth es z of j) few)
