-- From the faults of its sections to those of `archive.info`.
use Rattle.std.proofs.Common.{◌≡◌, ◌≢◌, ⊎_elim, inl, inr, ℕ, ◌<◌, ◌≤◌, List, [], ◌∷◌, map, length, Some, refl, sym, ap, ◌∙◌, subst, arith, decimal}
use Rattle.std.specs.Prelude.{codes}
use Rattle.std.proofs.lemmas.Fmt.{decimal_digit}
use Rattle.std.proofs.lemmas.List.{length-map}
use Rattle.serde_json.specs.Data.{Data, number, unsigned, string}
use Rattle.base_model.specs.declared.clusters.ClusterId.{ClusterId}
use Rattle.base_model.specs.Text.{Text, In}
use Rattle.base_model.specs.InfoText.{Section, IsInfo, head_name}
use Rattle.base_model.specs.Fields.{Field, by_key, at_number, fields_of, whole}
use Rattle.base_model.specs.InfoFiles.{IsClusterId, cluster_id_fields, cluster_id_field, archive_sections, IsArchiveInfo}
use Rattle.base_model.specs.Values.{ArchiveInfo}
use Rattle.repo_keys.specs.Agree.{HasKey, AgreeAt, db as db_name, db_history}
use Rattle.repo_info.specs.History.{IsHistory, IsWrongHistory}
use Rattle.repo_info.specs.ArchiveForm.{own_id, Matches, ShowsCluster, IsArchiveForm, IsWrongCurrent, section_names}
use Rattle.repo_info.proofs.ArchiveRules.{db, history, archive_sections_are}
use Rattle.repo_keys.proofs.Numbers.{all_in, in_map, entry_at, read_at, same_digits}
use Rattle.repo_keys.proofs.Sorted.{unique, fits, same_list, by_key_in, length_by_key}

-- the two sections of a value, and its current cluster
pub record Shape (v : ArchiveInfo) : Type 0 where
  pub current : ClusterId
  pub at : at_number v.current v.history ≡ Some current
  pub rules : IsClusterId current
  pub numbered : current.id ≡ v.current
  pub are : archive_sections v ≡ db current ∷ history v.history ∷ []

pub shape : (v : ArchiveInfo) → IsArchiveInfo v → Shape v
shape v h =
    let (c, at, i, same) = read_at own_id v.history 1 v.current h.numbers h.current.0 (omega (arith, h.current.1)) in
    let kept : 0 < length v.history = omega (arith, h.current.0, h.current.1) in
    record { current = c; at = at; rules = all_in IsClusterId v.history c h.clusters i; numbered = same; are = archive_sections_are v c kept at }

-- ---- what the sections of a value have

module _ (v : ArchiveInfo) (s : Shape v) where
  to_two : (section key : Text) (d : Data) → HasKey (archive_sections v) section key d → HasKey (db s.current ∷ history v.history ∷ []) section key d
  to_two section key d h = subst (λ (ss : List Section). HasKey ss section key d) s.are h

  from_two : (section key : Text) (d : Data) → HasKey (db s.current ∷ history v.history ∷ []) section key d → HasKey (archive_sections v) section key d
  from_two section key d h = subst (λ (ss : List Section). HasKey ss section key d) (sym s.are) h

  in_db : (key : Text) (d : Data) → HasKey (archive_sections v) db_name key d → In (key, d) (cluster_id_fields s.current)
  in_db key d h =
      let g = to_two db_name key d h in
      ⊎_elim
      (λ (e : g.at ≡ db s.current). subst (λ (x : Section). In (key, d) x.keys) e g.holds)
      (λ rest. ⊎_elim
      (λ (e : g.at ≡ history v.history). let off : db_history ≡ db_name = ap (λ (x : Section). x.name) (sym e) ∙ g.named in absurd (apart off))
      (λ (none : ⊥). absurd none)
      rest)
      g.found
    where
      apart : db_history ≡ db_name → ⊥
      apart e = cc

  db_in : (key : Text) (d : Data) → In (key, d) (cluster_id_fields s.current) → HasKey (archive_sections v) db_name key d
  db_in key d i = from_two db_name key d (record { at = db s.current; found = inl refl; named = refl; holds = i })

  in_history : (key : Text) (d : Data) → HasKey (archive_sections v) db_history key d → In (key, d) (by_key (map cluster_id_field v.history))
  in_history key d h =
      let g = to_two db_history key d h in
      ⊎_elim
      (λ (e : g.at ≡ db s.current). let off : db_name ≡ db_history = ap (λ (x : Section). x.name) (sym e) ∙ g.named in absurd (apart off))
      (λ rest. ⊎_elim
      (λ (e : g.at ≡ history v.history). subst (λ (x : Section). In (key, d) x.keys) e g.holds)
      (λ (none : ⊥). absurd none)
      rest)
      g.found
    where
      apart : db_name ≡ db_history → ⊥
      apart e = cc

  history_in : (key : Text) (d : Data) → In (key, d) (by_key (map cluster_id_field v.history)) → HasKey (archive_sections v) db_history key d
  history_in key d i = from_two db_history key d (record { at = history v.history; found = inr (inl refl); named = refl; holds = i })

  model : (section key : Text) (d : Data) → HasKey (archive_sections v) section key d → In section section_names
  model section key d h =
      let g = to_two section key d h in
      ⊎_elim
      (λ (e : g.at ≡ db s.current). inl (sym g.named ∙ ap (λ (x : Section). x.name) e))
      (λ rest. ⊎_elim
      (λ (e : g.at ≡ history v.history). inr (inl (sym g.named ∙ ap (λ (x : Section). x.name) e)))
      (λ (none : ⊥). absurd none)
      rest)
      g.found

  -- a value matches its own sections
  own : Matches (archive_sections v) v
  own = record {
    current = λ t i named. two_db t (subst (λ (ss : List Section). In t ss) s.are i) named;
    clusters = λ t i named. two_history t (subst (λ (ss : List Section). In t ss) s.are i) named;
  }
    where
      apart : db_history ≡ db_name → ⊥
      apart e = cc

      two_db : (t : Section) → In t (db s.current ∷ history v.history ∷ []) → t.name ≡ db_name → t.keys ≡ fields_of cluster_id_fields (at_number v.current v.history)
      two_db t (inl e) named = ap (λ (x : Section). x.keys) e ∙ ap (fields_of cluster_id_fields) (sym s.at)
      two_db t (inr (inl e)) named = absurd (apart (ap (λ (x : Section). x.name) (sym e) ∙ named))
      two_db t (inr (inr none)) named = absurd none

      two_history : (t : Section) → In t (db s.current ∷ history v.history ∷ []) → t.name ≡ db_history → length t.keys ≤ length v.history
      two_history t (inl e) named = absurd (apart (sym (ap (λ (x : Section). x.name) (sym e) ∙ named)))
      two_history t (inr (inl e)) named =
          let keys : length t.keys ≡ length (by_key (map cluster_id_field v.history)) = ap (λ (x : Section). length x.keys) e in
          omega (arith, keys, length_by_key (map cluster_id_field v.history), length-map v.history cluster_id_field)
      two_history t (inr (inr none)) named = absurd none

pub db_found : (ss : List Section) (p : Section) (c : ClusterId) → In p ss → p.name ≡ db_name → p.keys ≡ cluster_id_fields c → In (db c) ss
db_found ss p c i named keys =
    let same : ◌≡◌ {A = Section} (record { name = p.name; keys = p.keys }) (record { name = db_name; keys = cluster_id_fields c }) = rw (named, keys) refl in
    subst (λ (s : Section). In s ss) same i

-- ---- the values of three keys

abbrev at0 : List Field → Data
at0 [] = whole 0
at0 (k ∷ ks) = k.1

abbrev at1 : List Field → Data
at1 [] = whole 0
at1 (k ∷ ks) = at0 ks

abbrev at2 : List Field → Data
at2 [] = whole 0
at2 (k ∷ ks) = at1 ks

-- three keys are of one cluster
pub same_cluster : (c e : ClusterId) → IsClusterId c → IsClusterId e → cluster_id_fields c ≡ cluster_id_fields e → c ≡ e
same_cluster c e g h same =
    let first : ◌≡◌ {A = Data} (number (unsigned c.id)) (number (unsigned e.id)) = ap at0 same in
    let id : c.id ≡ e.id = cc in
    let second : ◌≡◌ {A = Data} (number (unsigned c.system)) (number (unsigned e.system)) = ap at1 same in
    let system : c.system ≡ e.system = cc in
    let text : ◌≡◌ {A = Data} (string (decimal c.version)) (string (decimal e.version)) = ap at2 same in
    let digits : decimal c.version ≡ decimal e.version = cc in
    let version = same_digits c.version e.version g.version h.version digits in
    let r : ◌≡◌ {A = ClusterId} (record { id = c.id; system = c.system; version = c.version }) (record { id = e.id; system = e.system; version = e.version }) = rw (id, system, version) refl in r

-- ---- the faults

abbrev WrongAt : List Section → Text → Text → Type 0
WrongAt ss section key = (v : ArchiveInfo) → IsArchiveInfo v → (section ≡ db_history → Matches ss v) → ¬ AgreeAt (archive_sections v) ss section key

none_from : (ss : List Section) (section key : Text) → WrongAt ss section key → (v : ArchiveInfo) → IsArchiveInfo v → archive_sections v ≢ ss
none_from ss section key wrong v rules same =
    wrong v rules (λ e. subst (λ (xs : List Section). Matches xs v) same (own v (shape v rules)))
    (record { there = λ d h. subst (λ (xs : List Section). HasKey xs section key d) same h; back = λ d h. subst (λ (xs : List Section). HasKey xs section key d) (sym same) h })

module _ (ss : List Section) (info : IsInfo ss) where
  same_section : (p q : Section) → In p ss → In q ss → p.name ≡ q.name → p ≡ q
  same_section p q i j e = unique (λ (s : Section). s.name) head_name ss p q info.order i j e

  has : (p : Section) (key : Text) (d : Data) (section : Text) → In p ss → p.name ≡ section → In (key, d) p.keys → HasKey ss section key d
  has p key d section i named there = record { at = p; found = i; named = named; holds = there }

  had : (p : Section) (key : Text) (d : Data) (section : Text) → In p ss → p.name ≡ section → HasKey ss section key d → In (key, d) p.keys
  had p key d section i named h = subst (λ (s : Section). In (key, d) s.keys) (same_section h.at p h.found i (h.named ∙ sym named)) h.holds

  not_history : (db_name ≡ db_history) → ⊥
  not_history e = cc

  -- a wrong key of the section `db`
  pub db_form : (p : Section) (section key : Text) → In p ss → p.name ≡ db_name → section ≡ db_name → IsWrongCurrent p.keys key → IsArchiveForm ss section key
  db_form p section key i named at wrong = subst (λ (n : Text). IsArchiveForm ss n key) (sym at) (record { none = none_from ss db_name key here; wrong = here; known = λ e. absurd (not_history e) })
    where
      here : WrongAt ss db_name key
      here v rules match agree =
          let s = shape v rules in
          wrong s.current s.rules (let low = rules.current.0 in let n = s.numbered in omega (arith, low, n)) (record {
            there = λ d j. had p key d db_name i named (agree.there d (db_in v s key d j));
            back = λ d j. in_db v s key d (agree.back d (has p key d db_name i named j));
          })

  -- no section `db`
  pub no_db : ((s : Section) → In s ss → s.name ≢ db_name) → IsArchiveForm ss db_name (codes "db-id")
  no_db none = record { none = none_from ss db_name (codes "db-id") here; wrong = here; known = λ e. absurd (not_history e) }
    where
      here : WrongAt ss db_name (codes "db-id")
      here v rules match agree =
          let s = shape v rules in
          let h = agree.there (whole s.current.id) (db_in v s (codes "db-id") (whole s.current.id) (inl refl)) in
          none h.at h.found h.named

  -- a section that no value has
  pub foreign_form : (p : Section) (key : Text) (d : Data) → In p ss → ¬ In p.name section_names → In (key, d) p.keys → IsArchiveForm ss p.name key
  foreign_form p key d i other there = record { none = none_from ss p.name key here; wrong = here; known = λ e. absurd (other (inr (inl e))) }
    where
      here : WrongAt ss p.name key
      here v rules match agree = other (model v (shape v rules) p.name key d (agree.back d (has p key d p.name i refl there)))

  module _ (c : ClusterId) (rules_of : IsClusterId c) (found : In (db c) ss) where
    shows : ShowsCluster ss
    shows = record { cluster = c; rules = rules_of; found = found }

    -- no section of the history
    pub no_history : ((s : Section) → In s ss → s.name ≢ db_history) → IsArchiveForm ss db_history (codes "1")
    no_history none = record { none = none_from ss db_history (codes "1") here; wrong = here; known = λ e. shows }
      where
        here : WrongAt ss db_history (codes "1")
        here v rules match agree =
            let s = shape v rules in
            let (e, i, same) = entry_at own_id v.history 1 1 rules.numbers (omega arith) (omega (arith, rules.current.0, rules.current.1)) in
            let one : decimal e.id ≡ codes "1" = ap decimal same ∙ decimal_digit 1 (omega arith) in
            let there = by_key_in (map cluster_id_field v.history) (cluster_id_field e) (in_map cluster_id_field v.history e i) in
            let h = agree.there (cluster_id_field e).1 (history_in v s (codes "1") (cluster_id_field e).1 (subst (λ (k : Text). In (k, (cluster_id_field e).1) (by_key (map cluster_id_field v.history))) one there)) in
            none h.at h.found h.named

    -- a wrong key of the history
    pub history_form : (p : Section) (section key : Text) → In p ss → p.name ≡ db_history → section ≡ db_history → IsWrongHistory IsClusterId own_id cluster_id_field c c.id p.keys key → IsArchiveForm ss section key
    history_form p section key i named at wrong = subst (λ (n : Text). IsArchiveForm ss n key) (sym at) (record { none = none_from ss db_history key here; wrong = here; known = λ e. shows })
      where
        here : WrongAt ss db_history key
        here v rules match agree =
            let s = shape v rules in
            let m = match refl in
            let same : c ≡ s.current = same_cluster c s.current rules_of s.rules (m.current (db c) found refl ∙ ap (fields_of cluster_id_fields) s.at) in
            let number : c.id ≡ v.current = ap (λ (e : ClusterId). e.id) same ∙ s.numbered in
            let is : IsHistory IsClusterId own_id cluster_id_field c c.id (length p.keys) v.history = record {
              clusters = rules.clusters;
              numbers = rules.numbers;
              at = ap (λ (n : ℕ). at_number n v.history) number ∙ s.at ∙ ap (λ (e : ClusterId). Some e) (sym same);
              within = let high = rules.current.1 in omega (arith, number, high);
              long = m.clusters p i named;
            } in
            wrong v.history is (record {
              there = λ d j. had p key d db_history i named (agree.there d (history_in v s key d j));
              back = λ d j. in_history v s key d (agree.back d (has p key d db_history i named j));
            })

    -- ---- the value

    module _ (past : Section) (h : List ClusterId) (i : In past ss) (named : past.name ≡ db_history) (is : IsHistory IsClusterId own_id cluster_id_field c c.id (length past.keys) h) (keys : past.keys ≡ by_key (map cluster_id_field h)) (low : 1 ≤ c.id) (only : (s : Section) → In s ss → In s.name section_names) where
      abbrev value : ArchiveInfo
      value = record { current = c.id; history = h }

      pub value_rules : IsArchiveInfo value
      value_rules = record { clusters = is.clusters; numbers = is.numbers; current = (low, is.within) }

      past_is : past ≡ history h
      past_is = let r : ◌≡◌ {A = Section} (record { name = past.name; keys = past.keys }) (record { name = db_history; keys = by_key (map cluster_id_field h) }) = rw (named, keys) refl in r

      pub value_sections : archive_sections value ≡ ss
      value_sections =
          let few = fits (λ (s : Section). s.name) head_name head_name (db c ∷ history h ∷ []) ss refl info.order back in
          archive_sections_are value c (omega (arith, low, is.within)) is.at ∙ sym (same_list (λ (s : Section). s.name) head_name head_name ss (db c ∷ history h ∷ []) info.order refl there few)
        where
          there : (z : Section) → In z (db c ∷ history h ∷ []) → In z ss
          there z (inl e) = subst (λ (s : Section). In s ss) (sym e) found
          there z (inr (inl e)) = subst (λ (s : Section). In s ss) (past_is ∙ sym e) i
          there z (inr (inr none)) = absurd none

          back : (z : Section) → In z ss → In z (db c ∷ history h ∷ [])
          back z j = ⊎_elim
              (λ (e : z.name ≡ db_name). inl (same_section z (db c) j found e))
              (λ rest. ⊎_elim
              (λ (e : z.name ≡ db_history). inr (inl (same_section z past j i (e ∙ sym named) ∙ past_is)))
              (λ (none : ⊥). absurd none)
              rest)
              (only z j)
