-- What a backup leaves that isn't listed: contents besides one that has the stanza have it too.
use Rattle.std.proofs.Common.{◌≡◌, ◌≢◌, ⊎_elim, inl, inr, Bool, true, false, Some, refl, sym, ◌∙◌, arith}
use Rattle.std.specs.Prelude.{IsSome}
use Rattle.base_devices.specs.Content.{Name, Content}
use Rattle.base_devices.specs.Moments.{View, is_unsynced}
use Rattle.base_devices.specs.Crash.{IsTemporary, Leaves}
use Rattle.base_model.specs.declared.labels.Label.{Label}
use Rattle.base_model.specs.Text.{Text}
use Rattle.base_model.specs.Names.{copy_of, archive_info, backup_info, manifest_name}
use Rattle.base_model.specs.InfoFiles.{IsBackupText}
use Rattle.base_model.specs.ManifestText.{IsManifestText}
use Rattle.base_model.specs.Repository.{Stanza}
use Rattle.base_model.specs.Represents.{Represents, HasStanza, IsArchiveFile}
use Rattle.base_model.specs.Log.{IsFixed, Pair, Manifested, IsPlaceOf, Lists}
use Rattle.base_model.specs.Steady.{IsSteady, EachImage}
use Rattle.base_model.proofs.Temporary.{fixed_lasts}
use Rattle.base_model.proofs.Frame.{pair_same}
use Rattle.backup_sink.specs.Way.{Way, MayUnsync, IsBeside}
use Rattle.backup_make.specs.declared.draft.Draft.{Draft}
use Rattle.backup_make.specs.Draft.{stanza_of, pair_of, main_of, is_own_of}
use Rattle.backup_make.specs.Made.{IsSyncedAt}
use Rattle.backup_make.proofs.Listed.{AgreesBelow, still_represents}

-- the name is none that a backup changes
pub record IsClear (own : Name → Bool) (pair main : Name) (n : Name) : Type 0 where
  pub out : own n ≡ false
  pub lasts : ¬ IsTemporary n
  pub pair_off : n ≢ pair
  pub copy_off : n ≢ copy_of pair
  pub main_off : n ≢ main
  pub main_copy_off : n ≢ copy_of main

-- all that is looked at of a stanza that doesn't list the label is clear
pub record IsFar (stanza : Text) (own : Name → Bool) (pair : Name) (s : Stanza) : Type 0 where
  pub archive : IsClear own pair (backup_info stanza) (archive_info stanza) × IsClear own pair (backup_info stanza) (copy_of (archive_info stanza))
  pub files : (n : Text) → IsArchiveFile stanza n → IsClear own pair (backup_info stanza) n
  pub manifests : (f : Content) → HasStanza stanza f s → (l : Label) → Lists stanza f l → IsClear own pair (backup_info stanza) (manifest_name stanza l) × IsClear own pair (backup_info stanza) (copy_of (manifest_name stanza l))
  pub places : (f : Content) → HasStanza stanza f s → (n : Text) → IsPlaceOf stanza f n → IsClear own pair (backup_info stanza) n
  pub fixed : (n : Text) → IsFixed stanza n → own n ≡ false
  pub list : (backup_info stanza ≢ pair) × (backup_info stanza ≢ copy_of pair) × (copy_of (backup_info stanza) ≢ pair) × (copy_of (backup_info stanza) ≢ copy_of pair)
  pub list_lasts : (¬ IsTemporary (backup_info stanza)) × (¬ IsTemporary (copy_of (backup_info stanza)))
  pub list_out : (own (backup_info stanza) ≡ false) × (own (copy_of (backup_info stanza)) ≡ false)

-- a disk that is steady has no member unsynced
pub synced_of : (draft : Draft) (s : Stanza) (a : View) → IsSteady (stanza_of draft) (Some s) a → IsSyncedAt (pair_of draft) (main_of draft) a
synced_of draft s a steady = record {
  manifest = steady.fixed (pair_of draft) (Manifested (draft.label, inl refl));
  manifest_copy = steady.fixed (copy_of (pair_of draft)) (Manifested (draft.label, inr refl));
  info = steady.fixed (main_of draft) (Pair (inr (inr (inl refl))));
  info_copy = steady.fixed (copy_of (main_of draft)) (Pair (inr (inr (inr refl))));
}

module _ (draft : Draft) (s : Stanza) (far : IsFar (stanza_of draft) (is_own_of draft) (pair_of draft) s) where
  abbrev stanza : Text
  stanza = stanza_of draft

  abbrev own : Name → Bool
  own = is_own_of draft

  abbrev pair : Text
  pair = pair_of draft

  beside_below : (f g : Content) → HasStanza stanza f s → IsBeside own pair f g → AgreesBelow stanza f g
  beside_below f g h x = record {
    archive = (by (archive_info stanza) far.archive.0, by (copy_of (archive_info stanza)) far.archive.1);
    files = λ n file. by n (far.files n file);
    manifests = λ l listed. let y = far.manifests f h l listed in (by (manifest_name stanza l) y.0, by (copy_of (manifest_name stanza l)) y.1);
    places = λ n p. by n (far.places f h n p);
  }
    where
      by : (n : Name) → IsClear own pair (backup_info stanza) n → g n ≡ f n
      by n c = x.others n c.out c.lasts c.pair_off c.copy_off

  beside_list : (f g : Content) → IsBeside own pair f g → (g (backup_info stanza) ≡ f (backup_info stanza)) × (g (copy_of (backup_info stanza)) ≡ f (copy_of (backup_info stanza)))
  beside_list f g x = (
    x.others (backup_info stanza) far.list_out.0 far.list_lasts.0 far.list.0 far.list.1,
    x.others (copy_of (backup_info stanza)) far.list_out.1 far.list_lasts.1 far.list.2 far.list.3,
  )

  -- a content besides one that has the stanza has it too
  pub beside_represents : (f g : Content) → HasStanza (stanza_of draft) f s → IsBeside (is_own_of draft) (pair_of draft) f g → HasStanza (stanza_of draft) g s
  beside_represents f g h x = still_represents stanza f g (beside_below f g h x) s h (beside_list f g x)

  -- ---- names that stay synced on the way

  module _ (a d : View) (Step : Content → Content → Type 0) (way : Way (MayUnsync (is_own_of draft)) Step a d) (steady : IsSteady (stanza_of draft) (Some s) a) where
    out_of : (n : Name) → own n ≡ false → ¬ IsTemporary n → ¬ MayUnsync own n
    out_of n out lasts m = ⊎_elim (λ (is : own n ≡ true). let u : ◌≡◌ {A = Bool} true false = sym is ∙ out in cc) lasts m

    pub stays_synced : (n : Name) → is_own_of draft n ≡ false → ¬ IsTemporary n → is_unsynced a n ≡ false → is_unsynced d n ≡ false
    stays_synced n out lasts h = way.synced d.moment n way.later (omega arith) (out_of n out lasts) h

    pub fixed_synced : (n : Text) → IsFixed (stanza_of draft) n → is_unsynced d n ≡ false
    fixed_synced n h = stays_synced n (far.fixed n h) (fixed_lasts stanza n h) (steady.fixed n h)

    -- where f lists the label, a place of g is one of f
    place_back : (f g : Content) → AgreesBelow stanza f g → (n : Text) → (p : IsPlaceOf stanza g n) → Lists stanza f p.label → IsPlaceOf stanza f n
    place_back f g agrees n p listed = record {
      label = p.label;
      listed = listed;
      manifest = p.manifest;
      reads = pair_same IsManifestText g f (manifest_name stanza p.label) p.manifest (sym (agrees.manifests p.label listed).0) (sym (agrees.manifests p.label listed).1) p.reads;
      entry = p.entry;
      of_it = p.of_it;
      filled = p.filled;
      is = p.is;
    }

    pub old_place_synced : (f g : Content) → Leaves a a.moment f → AgreesBelow (stanza_of draft) f g → (n : Text) → (p : IsPlaceOf (stanza_of draft) g n) → Lists (stanza_of draft) f p.label → is_unsynced d n ≡ false
    old_place_synced f g leaves agrees n p listed =
        let q = place_back f g agrees n p listed in
        let c = far.places f (steady.represents f leaves) n q in
        stays_synced n c.out c.lasts (steady.places f leaves n q)

    pub beside_place_synced : (f g : Content) → Leaves a a.moment f → IsBeside (is_own_of draft) (pair_of draft) f g → (n : Text) → IsPlaceOf (stanza_of draft) g n → is_unsynced d n ≡ false
    beside_place_synced f g leaves x n p =
        let list = beside_list f g x in
        old_place_synced f g leaves (beside_below f g (steady.represents f leaves) x) n p (p.listed.0, pair_same IsBackupText g f (backup_info stanza) p.listed.0 (sym list.0) (sym list.1) p.listed.1, p.listed.2)

  -- the command's way where the backup isn't listed
  module _ (a d : View) (known : IsSome a.now) (way : Way (MayUnsync (is_own_of draft)) (IsBeside (is_own_of draft) (pair_of draft)) a d) (steady : IsSteady (stanza_of draft) (Some s) a) where
    places : (g : Content) → Leaves d d.moment g → (n : Text) → IsPlaceOf stanza g n → is_unsynced d n ≡ false
    places g leaves n p = let x = way.comes known d.moment g way.later (omega arith) leaves in beside_place_synced a d _ way steady x.0 g x.1 x.2 n p

    pub unlisted_moves : EachImage (stanza_of draft) (λ g. Represents (stanza_of draft) g (Some s)) a d
    unlisted_moves = record {
      later = way.later;
      past = way.past;
      past_unsynced = way.past_unsynced;
      known = way.known known;
      fixed = fixed_synced a d _ way steady;
      places = places;
      leaves = λ t g lo hi leaves. let x = way.comes known t g lo hi leaves in beside_represents x.0 g (steady.represents x.0 x.1) x.2;
    }
