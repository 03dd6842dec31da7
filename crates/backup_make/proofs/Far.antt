-- All that is looked at of a stanza is apart from what a backup of a new label changes.
use Rattle.std.proofs.Common.{◌≡◌, ◌≢◌, ◌⊎◌, ⊎_elim, inl, inr, ℕ, ◌+◌, Bool, true, false, List, [], ◌∷◌, ◌++◌, length, take, drop, get_or, Option, Some, None, refl, sym, ◌∙◌, ap, subst, arith, append_assoc, take-append-drop, rules}
use Rattle.std.specs.Prelude.{codes, decimal, unwrap_or, ◌||◌}
use Rattle.std.proofs.lemmas.Bool.{false_from_ne_true}
use Rattle.std.proofs.lemmas.List.{append_cancel_left}
use Rattle.std.proofs.lemmas.Slice.Eq.{bytes_eq-Decides}
use Rattle.std.specs.declared.cmp.Ordering.{Ordering}
use Rattle.std.specs.declared.cmp.Ordering.TheVariants.{Less, Equal, Greater}
use Rattle.std.specs.Ordering.{match_ordering}
use Rattle.base_devices.specs.Content.{Name, Content, is_below}
use Rattle.base_devices.specs.Crash.{IsTemporary}
use Rattle.base_model.specs.declared.clusters.Cluster.{Cluster}
use Rattle.base_model.specs.declared.files.Bundled.{Bundled}
use Rattle.base_model.specs.declared.labels.Label.{Label}
use Rattle.base_model.specs.declared.labels.Later.{Later}
use Rattle.base_model.specs.declared.labels.BackupKind.{BackupKind}
use Rattle.base_model.specs.declared.labels.BackupKind.TheVariants.{Full, Diff, Incr}
use Rattle.base_model.specs.Text.{Text, In, ◌⫽◌}
use Rattle.base_model.specs.Dates.{stamp}
use Rattle.base_model.specs.Names.{copy_of, archive_info, backup_info, backup_folder, label_folder, label_text, later_text, letter, manifest_name}
use Rattle.base_model.specs.InfoFiles.{IsLabel, entry_field}
use Rattle.base_model.specs.ManifestText.{IsManifestText}
use Rattle.base_model.specs.Pair.{PairIs}
use Rattle.base_model.specs.Place.{place, place_by, holder}
use Rattle.base_model.specs.Values.{Entry, FileEntry, Manifest, BackupInfo}
use Rattle.base_model.specs.Repository.{Backup, Stanza}
use Rattle.base_model.specs.Represents.{HasStanza, IsArchiveFile, backup_value}
use Rattle.base_model.specs.Log.{IsFixed, Pair, File, Manifested, IsPlaceOf, Lists}
use Rattle.base_model.proofs.Temporary.{fixed_lasts, entry_lasts}
use Rattle.repo_pair.specs.Member.{IsPlain}
use Rattle.repo_ini.proofs.Orders.{not_itself}
use Rattle.repo_stanza.proofs.OneBackup.{pair_agrees, backup_rules}
use Rattle.repo_names.proofs.LabelTexts.{label_text-injective}
use Rattle.backup_sink.specs.Keeping.{is_own}
use Rattle.backup_record.specs.Record.{IsListOf}
use Rattle.backup_record.proofs.Following.{label_of}
use Rattle.backup_record.proofs.Left.{OneManifest, pair_one}
use Rattle.backup_record.proofs.Made.{in_map, of_map}
use Rattle.backup_make.specs.declared.draft.Draft.{Draft}
use Rattle.backup_make.specs.Draft.{stanza_of, pair_of, main_of, is_own_of, list_in, IsDraft}
use Rattle.backup_make.proofs.Labels.{apart}
use Rattle.backup_make.proofs.Unlisted.{IsClear, IsFar}

-- ---- texts without a slash

plain_append : (x y : Text) → IsPlain x → IsPlain y → IsPlain (x ++ y)
plain_append [] y a b = b
plain_append (c ∷ x) y a b = (a.0, plain_append x y a.1 b)

digit : (n : ℕ) → 48 + n ≢ 47
digit n e = omega (arith, e)

stamp_plain : (t : ℕ) → IsPlain (stamp t)
unfolding stamp
stamp_plain t = (digit _, (digit _, (digit _, (digit _, (digit _, (digit _, (digit _, (digit _, (λ (e : 45 ≡ 47). omega (arith, e), (digit _, (digit _, (digit _, (digit _, (digit _, (digit _, tt)))))))))))))))

letter_plain : (k : BackupKind) → letter k ≢ 47
letter_plain Full e = omega (arith, e)
letter_plain Diff e = omega (arith, e)
letter_plain Incr e = omega (arith, e)

later_plain : (o : Option Later) → IsPlain (later_text o)
later_plain None = tt
later_plain (Some l) = (λ (e : 95 ≡ 47). omega (arith, e), plain_append (stamp l.time) (letter l.kind ∷ []) (stamp_plain l.time) (letter_plain l.kind, tt))

label_plain : (l : Label) → IsPlain (label_text l)
label_plain l = plain_append (stamp l.full) (70 ∷ later_text l.later) (stamp_plain l.full) (λ (e : 70 ≡ 47). omega (arith, e), later_plain l.later)

pub no_slash : (x r y : Text) → IsPlain y → x ++ 47 ∷ r ≡ y → ⊥
no_slash [] r [] plain e = let h : ◌≡◌ {A = Text} (47 ∷ r) [] = e in cc
no_slash (c ∷ x) r [] plain e = let h : ◌≡◌ {A = Text} (c ∷ (x ++ 47 ∷ r)) [] = e in cc
no_slash [] r (d ∷ y) plain e = plain.0 (let h : d ≡ 47 = cc in h)
no_slash (c ∷ x) r (d ∷ y) plain e = no_slash x r y plain.1 (let h : x ++ 47 ∷ r ≡ y = cc in h)

-- what comes before the first slash, and after it
first_part : (x y r t : Text) → IsPlain x → IsPlain y → x ++ 47 ∷ r ≡ y ++ 47 ∷ t → (x ≡ y) × (r ≡ t)
first_part [] [] r t a b e = (refl, let h : r ≡ t = cc in h)
first_part [] (d ∷ y) r t a b e = absurd (b.0 (let h : d ≡ 47 = cc in h))
first_part (c ∷ x) [] r t a b e = absurd (a.0 (let h : c ≡ 47 = cc in h))
first_part (c ∷ x) (d ∷ y) r t a b e =
    let first : c ≡ d = cc in
    let rest : x ++ 47 ∷ r ≡ y ++ 47 ∷ t = cc in
    let p = first_part x y r t a.1 b.1 rest in
    (ap (λ (z : Text). c ∷ z) p.0 ∙ ap (λ (n : ℕ). n ∷ y) first, p.1)

pub below_is : (q n : Name) → is_below q n ≡ true → (rest : Name) × (n ≡ q ++ 47 ∷ rest)
below_is q n h =
    let whole = q ++ 47 ∷ [] in
    let same : whole ≡ take (length whole) n = (bytes_eq-Decides whole (take (length whole) n)).0 h in
    (drop (length whole) n, sym (take-append-drop (length whole) n) ∙ ap (λ (l : Name). l ++ drop (length whole) n) (sym same) ∙ append_assoc q (47 ∷ []) (drop (length whole) n))

either_of : (a b : Bool) → (a || b) ≡ true → (a ≡ true) ⊎ (b ≡ true)
either_of true b h = inl refl
either_of false b h = inr h

pub heads_apart : (n m : Name) → get_or n 0 0 ≡ 97 → get_or m 0 0 ≡ 98 → n ≢ m
heads_apart n m a b e = let h : ◌≡◌ {A = ℕ} 97 98 = sym a ∙ ap (λ (l : Name). get_or l 0 0) e ∙ b in omega (arith, h)

module _ (stanza : Text) (label : Label) where
  abbrev folder : Name
  folder = label_folder stanza label

  -- an own name lies in a folder of the label's
  pub own_is : (n : Name) → is_own folder n ≡ true → (x rest : Text) × (n ≡ folder ⫽ x ⫽ rest)
  own_is n h = ⊎_elim
      (λ (a : is_below (folder ⫽ codes "pg_data") n ≡ true). let r = below_is (folder ⫽ codes "pg_data") n a in (codes "pg_data", r.0, r.1 ∙ append_assoc folder (codes "/pg_data") (47 ∷ r.0)))
      (λ (a : is_below (folder ⫽ codes "bundle") n ≡ true). let r = below_is (folder ⫽ codes "bundle") n a in (codes "bundle", r.0, r.1 ∙ append_assoc folder (codes "/bundle") (47 ∷ r.0)))
      (either_of (is_below (folder ⫽ codes "pg_data") n) (is_below (folder ⫽ codes "bundle") n) h)

  not_own : (n : Name) → ((x rest : Text) → n ≢ folder ⫽ x ⫽ rest) → is_own folder n ≡ false
  not_own n off = false_from_ne_true (is_own folder n) (λ (h : is_own folder n ≡ true). let r = own_is n h in off r.0 r.1 r.2)

  -- a name in the archive
  archive_out : (n : Name) → get_or n 0 0 ≡ 97 → is_own folder n ≡ false
  archive_out n head = not_own n (λ x rest. heads_apart n (folder ⫽ x ⫽ rest) head refl)

  -- what two labels' folders have in common
  pub parts : (l : Label) (r t : Text) → label_folder stanza l ⫽ r ≡ folder ⫽ t → (label_text l ≡ label_text label) × (r ≡ t)
  parts l r t e =
      let moved : backup_folder stanza ++ 47 ∷ (label_text l ++ 47 ∷ r) ≡ backup_folder stanza ++ 47 ∷ (label_text label ++ 47 ∷ t) =
      sym (append_assoc (backup_folder stanza) (47 ∷ label_text l) (47 ∷ r)) ∙ e ∙ append_assoc (backup_folder stanza) (47 ∷ label_text label) (47 ∷ t) in
      let cut = append_cancel_left (backup_folder stanza) (47 ∷ (label_text l ++ 47 ∷ r)) (47 ∷ (label_text label ++ 47 ∷ t)) moved in
      first_part (label_text l) (label_text label) r t (label_plain l) (label_plain label) (let h : label_text l ++ 47 ∷ r ≡ label_text label ++ 47 ∷ t = cc in h)

  -- a name in a label's folder is none directly in the stanza's
  not_direct : (l : Label) (r y : Text) → IsPlain y → label_folder stanza l ⫽ r ≢ backup_folder stanza ⫽ y
  not_direct l r y plain e =
      let moved : backup_folder stanza ++ 47 ∷ (label_text l ++ 47 ∷ r) ≡ backup_folder stanza ++ 47 ∷ y = sym (append_assoc (backup_folder stanza) (47 ∷ label_text l) (47 ∷ r)) ∙ e in
      let cut = append_cancel_left (backup_folder stanza) (47 ∷ (label_text l ++ 47 ∷ r)) (47 ∷ y) moved in
      no_slash (label_text l) r y plain (let h : label_text l ++ 47 ∷ r ≡ y = cc in h)

  pub copy_in : (prefix rest : Name) → copy_of (prefix ⫽ rest) ≡ prefix ⫽ (rest ++ codes ".copy")
  copy_in prefix rest = append_assoc prefix (47 ∷ rest) (codes ".copy")

  pub manifest_plain : IsPlain (codes "backup.manifest")
  manifest_plain = search rules

  pub manifest_copy_plain : IsPlain (codes "backup.manifest.copy")
  manifest_copy_plain = search rules

  info_plain : IsPlain (codes "backup.info")
  info_plain = search rules

  info_copy_plain : IsPlain (codes "backup.info.copy")
  info_copy_plain = search rules

  -- a member of any label's manifest isn't its own
  member_out : (l : Label) (y : Text) → IsPlain y → is_own folder (label_folder stanza l ⫽ y) ≡ false
  member_out l y plain = not_own (label_folder stanza l ⫽ y) (λ x rest e. no_slash x rest y plain (sym (parts l y (x ⫽ rest) e).1))

  -- a name in the folder of another label
  clear : (l : Label) (r : Text) → label_text l ≢ label_text label → ¬ IsTemporary (label_folder stanza l ⫽ r) → IsClear (is_own (label_folder stanza label)) (manifest_name stanza label) (backup_info stanza) (label_folder stanza l ⫽ r)
  clear l r off lasts = record {
    out = not_own (label_folder stanza l ⫽ r) (λ x rest e. off (parts l r (x ⫽ rest) e).0);
    lasts = lasts;
    pair_off = λ e. off (parts l r (codes "backup.manifest") e).0;
    copy_off = λ e. off (parts l r (codes "backup.manifest.copy") (e ∙ copy_in folder (codes "backup.manifest"))).0;
    main_off = not_direct l r (codes "backup.info") info_plain;
    main_copy_off = λ e. not_direct l r (codes "backup.info.copy") info_copy_plain (e ∙ copy_in (backup_folder stanza) (codes "backup.info"));
  }

  -- a name in the archive
  archive_clear : (n : Name) → get_or n 0 0 ≡ 97 → ¬ IsTemporary n → IsClear (is_own (label_folder stanza label)) (manifest_name stanza label) (backup_info stanza) n
  archive_clear n head lasts = record {
    out = archive_out n head;
    lasts = lasts;
    pair_off = heads_apart n (manifest_name stanza label) head refl;
    copy_off = heads_apart n (copy_of (manifest_name stanza label)) head refl;
    main_off = heads_apart n (backup_info stanza) head refl;
    main_copy_off = heads_apart n (copy_of (backup_info stanza)) head refl;
  }

  file_head : (n : Name) → IsArchiveFile stanza n → get_or n 0 0 ≡ 97
  file_head n f = ap (λ (m : Name). get_or m 0 0) f.is

module _ (one_manifest : OneManifest) (draft : Draft) (is_draft : IsDraft draft) (s : Stanza) (list_of : IsListOf s (list_in draft)) where
  abbrev stanza : Text
  stanza = stanza_of draft

  abbrev label : Label
  label = draft.label

  -- a listed backup has another label
  listed_other : (e : Entry) → In e (backup_value s None).backups → label_text e.label ≢ label_text label
  listed_other e at same =
      let before = (is_draft.follows 0 (omega arith)).later e.label (in_map (λ (x : Entry). x.label) e (list_in draft).backups (subst (λ (v : BackupInfo). In e v.backups) (sym list_of) at)) in
      not_itself (label_text e.label) (label_text label) (less_of _ before) same
    where
      less_of : (r : Ordering) → match_ordering r true false false ≡ true → r ≡ Less
      less_of Less h = refl
      less_of Equal h = let e : ◌≡◌ {A = Bool} false true = h in cc
      less_of Greater h = let e : ◌≡◌ {A = Bool} false true = h in cc

  backup_other : (b : Backup) → In b s.backups → label_text b.entry.label ≢ label_text label
  backup_other b at = listed_other b.entry (in_map (λ (x : Backup). x.entry) b s.backups at)

  entries_of : (c : Option Cluster) → (backup_value s c).backups ≡ (backup_value s None).backups
  entries_of None = refl
  entries_of (Some c) = refl

  -- a label that f lists is that of one of the stanza's backups
  listed_backup : (f : Content) → HasStanza stanza f s → (l : Label) → Lists stanza f l → (b : Backup) × In b s.backups × (b.entry.label ≡ l)
  listed_backup f h l x =
      let agree = pair_agrees f (backup_info stanza) x.0 (backup_value s h.pending) x.1 h.backup_pair in
      let e = x.2.0 in
      let r = of_map entry_field (entry_field e) (backup_value s h.pending).backups (subst (λ (ks : List _). In (entry_field e) ks) agree.entries (in_map entry_field e x.0.backups x.2.1)) in
      let q = of_map (λ (b : Backup). b.entry) r.0 s.backups (subst (λ (es : List Entry). In r.0 es) (entries_of h.pending) r.1) in
      let text : label_text e.label ≡ label_text r.0.label = ap (λ (k : _). k.0) r.2 in
      let mine : IsLabel e.label = label_of (length x.0.history) x.0.backups e.label (backup_rules f (backup_info stanza) x.0 x.1).backups (in_map (λ (y : Entry). y.label) e x.0.backups x.2.1) in
      let its : IsLabel r.0.label = label_of (length (backup_value s h.pending).history) (backup_value s h.pending).backups r.0.label (backup_rules f (backup_info stanza) (backup_value s h.pending) h.backup_pair).backups (in_map (λ (y : Entry). y.label) r.0 (backup_value s h.pending).backups r.1) in
      (q.0, q.1, ap (λ (y : Entry). y.label) (sym q.2) ∙ label_text-injective r.0.label e.label its mine (sym text) ∙ x.2.2)

  lists_other : (f : Content) → HasStanza stanza f s → (l : Label) → Lists stanza f l → label_text l ≢ label_text label
  lists_other f h l x = let q = listed_backup f h l x in subst (λ (k : Label). label_text k ≢ label_text label) q.2 (backup_other q.0 q.1)

  pair_rules : (f : Content) (n : Name) (m : Manifest) → PairIs IsManifestText f n m → (bytes : Text) × IsManifestText m bytes
  pair_rules f n m (inl x) = (x.0, x.2)
  pair_rules f n m (inr x) = (x.1.0, x.1.2)

  place_in : (l : Label) (e : FileEntry) (o : Option Bundled) → (rest : Text) × ((place_by stanza l e o).0 ≡ label_folder stanza (holder l e) ⫽ rest)
  place_in l e None = (codes "pg_data" ⫽ e.path, refl)
  place_in l e (Some b) = (codes "bundle" ⫽ decimal b.number, refl)

  -- the label that holds a place's bytes is listed
  holder_other : (f : Content) → HasStanza stanza f s → (n : Text) (p : IsPlaceOf stanza f n) → label_text (holder p.label p.entry) ≢ label_text label
  holder_other f h n p = by p.entry.reference refl
    where
      by : (o : Option Label) → p.entry.reference ≡ o → label_text (unwrap_or o p.label) ≢ label_text label
      by None is = lists_other f h p.label p.listed
      by (Some r) is =
          let q = listed_backup f h p.label p.listed in
          let x = h.manifests q.0 q.1 in
          let same : p.manifest ≡ x.0 = pair_one one_manifest f (manifest_name stanza p.label) p.manifest x.0 p.reads (subst (λ (k : Label). PairIs IsManifestText f (manifest_name stanza k) x.0) q.2 x.1) in
          let refers = (x.2.references r).1 (p.entry, subst (λ (m : Manifest). In p.entry m.files) same p.of_it, is) in
          let y = (x.2.ancestors r refers).1 in
          subst (λ (k : Label). label_text k ≢ label_text label) y.2 (backup_other y.0 y.1)

  place_clear : (f : Content) → HasStanza stanza f s → (n : Text) → IsPlaceOf stanza f n → IsClear (is_own_of draft) (pair_of draft) (main_of draft) n
  place_clear f h n p =
      let w = place_in p.label p.entry p.entry.bundle in
      let rules_of = pair_rules f (manifest_name stanza p.label) p.manifest p.reads in
      let lasts : ¬ IsTemporary (place stanza p.label p.entry).0 = entry_lasts stanza p.label p.manifest.folders p.entry (rules_of.1.rules.files p.entry p.of_it) in
      subst (λ (m : Name). IsClear (is_own_of draft) (pair_of draft) (main_of draft) m) (sym (p.is ∙ w.1))
      (clear stanza label (holder p.label p.entry) w.0 (holder_other f h n p) (subst (λ (m : Name). ¬ IsTemporary m) w.1 lasts))

  fixed_out : (n : Text) → IsFixed stanza n → is_own_of draft n ≡ false
  fixed_out n (Pair (inl e)) = archive_out stanza label n (ap (λ (m : Name). get_or m 0 0) e)
  fixed_out n (Pair (inr (inl e))) = archive_out stanza label n (ap (λ (m : Name). get_or m 0 0) e)
  fixed_out n (Pair (inr (inr (inl e)))) = ap (is_own_of draft) e ∙ (apart draft is_draft).main_out
  fixed_out n (Pair (inr (inr (inr e)))) = ap (is_own_of draft) e ∙ (apart draft is_draft).main_copy_out
  fixed_out n (File f) = archive_out stanza label n (file_head stanza label n f)
  fixed_out n (Manifested (l, inl e)) = ap (is_own_of draft) e ∙ member_out stanza label l (codes "backup.manifest") (manifest_plain stanza label)
  fixed_out n (Manifested (l, inr e)) = ap (is_own_of draft) (e ∙ copy_in stanza label (label_folder stanza l) (codes "backup.manifest")) ∙ member_out stanza label l (codes "backup.manifest.copy") (manifest_copy_plain stanza label)

  pub far : IsFar (stanza_of draft) (is_own_of draft) (pair_of draft) s
  far = record {
    archive = (
      archive_clear stanza label (archive_info stanza) refl (fixed_lasts stanza (archive_info stanza) (Pair (inl refl))),
      archive_clear stanza label (copy_of (archive_info stanza)) refl (fixed_lasts stanza (copy_of (archive_info stanza)) (Pair (inr (inl refl)))),
    );
    files = λ n f. archive_clear stanza label n (file_head stanza label n f) (fixed_lasts stanza n (File f));
    manifests = λ f h l x. (
        let other = lists_other f h l x in (
          clear stanza label l (codes "backup.manifest") other (fixed_lasts stanza (manifest_name stanza l) (Manifested (l, inl refl))),
          subst (λ (m : Name). IsClear (is_own_of draft) (pair_of draft) (main_of draft) m) (sym (copy_in stanza label (label_folder stanza l) (codes "backup.manifest")))
              (clear stanza label l (codes "backup.manifest.copy") other (subst (λ (m : Name). ¬ IsTemporary m) (copy_in stanza label (label_folder stanza l) (codes "backup.manifest")) (fixed_lasts stanza (copy_of (manifest_name stanza l)) (Manifested (l, inr refl))))),
        )
        );
    places = place_clear;
    fixed = fixed_out;
    list = (
      λ e. not_direct stanza label label (codes "backup.manifest") (codes "backup.info") (info_plain stanza label) (sym e),
      λ e. not_direct stanza label label (codes "backup.manifest.copy") (codes "backup.info") (info_plain stanza label) (sym (e ∙ copy_in stanza label (label_folder stanza label) (codes "backup.manifest"))),
      λ e. not_direct stanza label label (codes "backup.manifest") (codes "backup.info.copy") (info_copy_plain stanza label) (sym e ∙ copy_in stanza label (backup_folder stanza) (codes "backup.info")),
      λ e. not_direct stanza label label (codes "backup.manifest.copy") (codes "backup.info.copy") (info_copy_plain stanza label)
          (sym (e ∙ copy_in stanza label (label_folder stanza label) (codes "backup.manifest")) ∙ copy_in stanza label (backup_folder stanza) (codes "backup.info")),
    );
    list_lasts = ((apart draft is_draft).main_lasts, (apart draft is_draft).main_copy_lasts);
    list_out = ((apart draft is_draft).main_out, (apart draft is_draft).main_copy_out);
  }
