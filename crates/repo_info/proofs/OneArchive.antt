-- A text of `archive.info` is of one value, and so is a pair.
use Rattle.std.proofs.Common.{◌≡◌, ⊎_elim, inl, inr, ℕ, ◌+◌, List, [], ◌∷◌, map, length, Some, refl, sym, ap, ◌∙◌, subst, arith}
use Rattle.std.specs.List.{AllByRecursion}
use Rattle.std.proofs.lemmas.List.{length-map}
use Rattle.base_devices.specs.Content.{Value, Content}
use Rattle.base_model.specs.declared.clusters.ClusterId.{ClusterId}
use Rattle.base_model.specs.Text.{Text, In}
use Rattle.base_model.specs.Names.{copy_of}
use Rattle.base_model.specs.Pair.{MemberIs, PairIs}
use Rattle.base_model.specs.InfoText.{Section}
use Rattle.base_model.specs.Fields.{Field, by_key}
use Rattle.base_model.specs.InfoFiles.{IsClusterId, cluster_id_field, AreFrom, archive_sections, IsArchiveInfo, IsArchiveText}
use Rattle.base_model.specs.Values.{ArchiveInfo}
use Rattle.repo_ini.proofs.OneText.{one_sections}
use Rattle.repo_info.specs.ArchiveForm.{own_id}
use Rattle.repo_info.proofs.ArchiveForms.{shape, same_cluster}
use Rattle.repo_info.proofs.ArchiveRules.{archive_is_info}
use Rattle.repo_info.proofs.IdentityFields.{same_field}
use Rattle.repo_keys.proofs.Numbers.{all_in, map_in, id_low}
use Rattle.repo_keys.proofs.Sorted.{by_key_in, in_by_key, length_by_key}

-- histories with the same fields are the same
alike : (xs ys : List ClusterId) (m : ℕ) → AllByRecursion IsClusterId xs → AllByRecursion IsClusterId ys → AreFrom m (map own_id xs) → AreFrom m (map own_id ys) → length xs ≡ length ys → ((z : Field) → In z (map cluster_id_field xs) → In z (map cluster_id_field ys)) → xs ≡ ys
alike [] [] m h g p q long all = refl
alike [] (y ∷ ys) m h g p q long all = absurd (omega (arith, long))
alike (x ∷ xs) [] m h g p q long all = absurd (omega (arith, long))
alike (x ∷ xs) (y ∷ ys) m h g p q long all = ap (λ (c : ClusterId). c ∷ xs) first ∙ ap (λ (cs : List ClusterId). y ∷ cs) (alike xs ys (m + 1) h.1 g.1 p.1 q.1 (omega (arith, long)) rest)
  where
    first : x ≡ y
    first = ⊎_elim
        (λ (e : cluster_id_field x ≡ cluster_id_field y). same_field x y h.0 g.0 e)
        (λ (i : In (cluster_id_field x) (map cluster_id_field ys)).
        let (c, j, e) = map_in cluster_id_field ys (cluster_id_field x) i in
        let same : x ≡ c = same_field x c h.0 (all_in IsClusterId ys c g.1 j) e in
        let low = id_low own_id ys (m + 1) c q.1 j in
        let id : c.id ≡ m = ap own_id (sym same) ∙ p.0 in
        absurd (omega (arith, low, id)))
        (all (cluster_id_field x) (inl refl))

    rest : (z : Field) → In z (map cluster_id_field xs) → In z (map cluster_id_field ys)
    rest z i = ⊎_elim
        (λ (e : z ≡ cluster_id_field y).
        let (c, j, f) = map_in cluster_id_field xs z i in
        let same : c ≡ y = same_field c y (all_in IsClusterId xs c h.1 j) g.0 (sym f ∙ e) in
        let low = id_low own_id xs (m + 1) c p.1 j in
        let id : c.id ≡ m = ap own_id same ∙ q.0 in
        absurd (omega (arith, low, id)))
        (λ (j : In z (map cluster_id_field ys)). j)
        (all z (inr i))

abbrev head_keys : List Section → List Field
head_keys [] = []
head_keys (s ∷ ss) = s.keys

abbrev next_keys : List Section → List Field
next_keys [] = []
next_keys (s ∷ ss) = head_keys ss

same_history : (xs ys : List ClusterId) → AllByRecursion IsClusterId xs → AllByRecursion IsClusterId ys → AreFrom 1 (map own_id xs) → AreFrom 1 (map own_id ys) → by_key (map cluster_id_field xs) ≡ by_key (map cluster_id_field ys) → xs ≡ ys
same_history xs ys h g p q same =
    let count = sym (length-map xs cluster_id_field) ∙ sym (length_by_key (map cluster_id_field xs)) ∙ ap length same ∙ length_by_key (map cluster_id_field ys) ∙ length-map ys cluster_id_field in
    alike xs ys 1 h g p q count (λ z i. in_by_key (map cluster_id_field ys) z (subst (λ (ks : List Field). In z ks) same (by_key_in (map cluster_id_field xs) z i)))

same_sections : (v w : ArchiveInfo) → IsArchiveInfo v → IsArchiveInfo w → archive_sections v ≡ archive_sections w → v ≡ w
same_sections v w h g same =
    let s = shape v h in
    let t = shape w g in
    let both = sym s.are ∙ same ∙ t.are in
    let cluster = same_cluster s.current t.current s.rules t.rules (ap head_keys both) in
    let current : v.current ≡ w.current = sym s.numbered ∙ ap own_id cluster ∙ t.numbered in
    let history = same_history v.history w.history h.clusters g.clusters h.numbers g.numbers (ap next_keys both) in
    let r : ◌≡◌ {A = ArchiveInfo} (record { current = v.current; history = v.history }) (record { current = w.current; history = w.history }) = rw (current, history) refl in r

pub one_archive_text : (v w : ArchiveInfo) (b : Text) → IsArchiveText v b → IsArchiveText w b → v ≡ w
one_archive_text v w b h g = same_sections v w h.rules g.rules (one_sections (archive_sections v) (archive_sections w) (archive_is_info v h.rules) (archive_is_info w g.rules) (sym h.spelled ∙ g.spelled))

one_member : (f : Content) (name : Text) (v w : ArchiveInfo) → MemberIs IsArchiveText f name v → MemberIs IsArchiveText f name w → v ≡ w
one_member f name v w h g =
    let e : ◌≡◌ {A = Value} (Some h.0) (Some g.0) = sym h.1 ∙ g.1 in
    let same : h.0 ≡ g.0 = cc in
    one_archive_text v w g.0 (subst (λ (b : Text). IsArchiveText v b) same h.2) g.2

pub one_archive_pair : (f : Content) (name : Text) (v w : ArchiveInfo) → PairIs IsArchiveText f name v → PairIs IsArchiveText f name w → v ≡ w
one_archive_pair f name v w h g = ⊎_elim
    (λ (m : MemberIs IsArchiveText f name v). ⊎_elim (λ (n : MemberIs IsArchiveText f name w). one_member f name v w m n) (λ other. absurd (other.0 v m)) g)
    (λ other. ⊎_elim (λ (n : MemberIs IsArchiveText f name w). absurd (other.0 w n)) (λ also. one_member f (copy_of name) v w other.1 also.1) g)
    h
