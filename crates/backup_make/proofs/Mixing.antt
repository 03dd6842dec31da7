-- A content that may be left, with the two members of the prior backup's manifest as the disk holds them.
use Rattle.std.proofs.Common.{◌≡◌, ◌⊎◌, ⊎_elim, inl, inr, Bool, true, false, Option, Some, None, refl, sym, ◌∙◌, ap, subst}
use Rattle.std.specs.Prelude.{IsSome, IsTrue, bytes_eq, ◌||◌, codes, decimal}
use Rattle.std.proofs.lemmas.Slice.Eq.{bytes_eq-Decides}
use Rattle.base_devices.specs.Content.{Name, Value, Content, Holds}
use Rattle.base_devices.specs.Moments.{View, IsImage, is_unsynced, MayKeep}
use Rattle.base_devices.specs.Crash.{Leaves}
use Rattle.base_model.specs.declared.labels.Label.{Label}
use Rattle.base_model.specs.declared.files.Bundled.{Bundled}
use Rattle.base_model.specs.Text.{Text, ◌⫽◌}
use Rattle.base_model.specs.Names.{copy_of, label_folder, manifest_name}
use Rattle.base_model.specs.ManifestText.{IsManifestText}
use Rattle.base_model.specs.Pair.{PairIs}
use Rattle.base_model.specs.Place.{place_by, holder}
use Rattle.base_model.specs.Values.{FileEntry, Manifest}
use Rattle.base_model.specs.Repository.{Stanza}
use Rattle.base_model.specs.Log.{Manifested, IsPlaceOf}
use Rattle.base_model.specs.Steady.{IsSteady}
use Rattle.base_model.proofs.Frame.{pair_same}
use Rattle.backup_sink.proofs.Ways.{Law}
use Rattle.backup_make.proofs.EachImage.{IsMixed}
use Rattle.backup_make.proofs.Far.{no_slash, parts, copy_in, manifest_plain, manifest_copy_plain}

-- without a prior backup each is like itself
pub mixed_none : (stanza : Text) (s : Stanza) (a : View) → IsSteady stanza (Some s) a → IsMixed stanza s None a
mixed_none stanza s a steady f leaves = (f, leaves, record { has = steady.represents f leaves; reads = tt }, λ n p. refl)

module _ (stanza : Text) (s : Stanza) (a : View) (steady : IsSteady stanza (Some s) a) (law : Law a) (now : Content) (known : a.now ≡ Some now) (label : Label) (m : Manifest) (reads : PairIs IsManifestText now (manifest_name stanza label) m) where
  abbrev main : Name
  main = manifest_name stanza label

  abbrev is_member : Name → Bool
  is_member n = bytes_eq main n || bytes_eq (copy_of main) n

  chosen : Bool → Value → Value → Value
  chosen true v w = v
  chosen false v w = w

  mix : Content → Content
  mix f n = chosen (is_member n) (now n) (f n)

  at_member : (f : Content) (n : Name) → is_member n ≡ true → mix f n ≡ now n
  unfolding mix chosen
  at_member f n is = ap (λ (b : Bool). chosen b (now n) (f n)) is

  at_other : (f : Content) (n : Name) → is_member n ≡ false → mix f n ≡ f n
  unfolding mix chosen
  at_other f n is = ap (λ (b : Bool). chosen b (now n) (f n)) is

  or_true : (b c : Bool) → c ≡ true → (b || c) ≡ true
  or_true true c h = refl
  or_true false c h = h

  main_member : is_member main ≡ true
  main_member = ap (λ (b : Bool). b || bytes_eq (copy_of main) main) ((bytes_eq-Decides main main).1 refl)

  copy_member : is_member (copy_of main) ≡ true
  copy_member = or_true (bytes_eq main (copy_of main)) (bytes_eq (copy_of main) (copy_of main)) ((bytes_eq-Decides (copy_of main) (copy_of main)).1 refl)

  synced : (n : Name) → is_member n ≡ true → is_unsynced a n ≡ false
  synced n is = by (bytes_eq main n) (bytes_eq (copy_of main) n) refl refl is
    where
      by : (b c : Bool) → bytes_eq main n ≡ b → bytes_eq (copy_of main) n ≡ c → (b || c) ≡ true → is_unsynced a n ≡ false
      by true c e g h = subst (λ (k : Name). is_unsynced a k ≡ false) ((bytes_eq-Decides main n).0 e) (steady.fixed main (Manifested (label, inl refl)))
      by false true e g h = subst (λ (k : Name). is_unsynced a k ≡ false) ((bytes_eq-Decides (copy_of main) n).0 g) (steady.fixed (copy_of main) (Manifested (label, inr refl)))
      by false false e g h = let k : ◌≡◌ {A = Bool} false true = h in cc

  kept_now : (n : Name) → is_member n ≡ true → MayKeep a n (now n)
  kept_now n is = ⊎_elim (λ (k : MayKeep a n (now n)). k) (λ (l : is_unsynced a n ≡ true). let u : ◌≡◌ {A = Bool} true false = sym l ∙ synced n is in cc) (law n (now n) (subst (λ (o : Option Content). Holds o n (now n)) (sym known) refl))

  mixed_image : (f : Content) → IsImage a a.moment f → IsImage a a.moment (mix f)
  mixed_image f image n = by (is_member n) refl
    where
      by : (b : Bool) → is_member n ≡ b → a.kept a.moment n (mix f n) ⊎ (IsTrue (a.unsynced a.moment n) × IsSome (mix f n))
      by true is = subst (λ (v : Value). a.kept a.moment n v ⊎ (IsTrue (a.unsynced a.moment n) × IsSome v)) (sym (at_member f n is)) (inl (kept_now n is))
      by false is = subst (λ (v : Value). a.kept a.moment n v ⊎ (IsTrue (a.unsynced a.moment n) × IsSome v)) (sym (at_other f n is)) (image n)

  place_in : (l : Label) (e : FileEntry) (o : Option Bundled) → (k : Label) × (x rest : Text) × ((place_by stanza l e o).0 ≡ label_folder stanza k ⫽ x ⫽ rest)
  place_in l e None = (holder l e, codes "pg_data", e.path, refl)
  place_in l e (Some b) = (holder l e, codes "bundle", decimal b.number, refl)

  -- no place is a member of a manifest
  place_other : (f : Content) (n : Name) → IsPlaceOf stanza f n → is_member n ≡ false
  place_other f n p = by (bytes_eq main n) (bytes_eq (copy_of main) n) refl refl
    where
      off : (y : Text) → ((x rest : Text) → x ⫽ rest ≡ y → ⊥) → label_folder stanza label ⫽ y ≡ n → ⊥
      off y plain e =
          let w = place_in p.label p.entry p.entry.bundle in
          plain w.1 w.2 ((parts stanza label w.0 (w.1 ⫽ w.2) y (sym (e ∙ p.is ∙ w.3))).1)

      by : (b c : Bool) → bytes_eq main n ≡ b → bytes_eq (copy_of main) n ≡ c → (b || c) ≡ false
      by true c e g = absurd (off (codes "backup.manifest") (λ x rest h. no_slash x rest (codes "backup.manifest") (manifest_plain stanza label) h) ((bytes_eq-Decides main n).0 e))
      by false true e g = absurd (off (codes "backup.manifest.copy") (λ x rest h. no_slash x rest (codes "backup.manifest.copy") (manifest_copy_plain stanza label) h) (sym (copy_in stanza label (label_folder stanza label) (codes "backup.manifest")) ∙ (bytes_eq-Decides (copy_of main) n).0 g))
      by false false e g = refl

  reads_mixed : (f : Content) → PairIs IsManifestText (mix f) main m
  reads_mixed f = pair_same IsManifestText now (mix f) main m (at_member f main main_member) (at_member f (copy_of main) copy_member) reads

  -- each is so with a prior backup whose manifest the disk holds
  pub mixed_prior : IsMixed stanza s (Some (record { label = label; manifest = m })) a
  mixed_prior f leaves = ⊎_elim
      (λ (is : a.now ≡ Some f). (
      let same : now ≡ f = (let e : ◌≡◌ {A = Option Content} (Some now) (Some f) = sym known ∙ is in cc) in
      (f, leaves, record { has = steady.represents f leaves; reads = subst (λ (g : Content). PairIs IsManifestText g main m) same reads }, λ n p. refl)
      ))
      (λ (image : IsImage a a.moment f). (
      let there : Leaves a a.moment (mix f) = inr (mixed_image f image) in
      (mix f, there, record { has = steady.represents (mix f) there; reads = reads_mixed f }, λ n p. at_other f n (place_other (mix f) n p))
      ))
      leaves
