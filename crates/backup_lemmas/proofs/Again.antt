-- One content gives one last backup: so a stanza is sound with whichever of the allowed backups it has there.
use Rattle.std.proofs.Common.{◌≡◌, inl, inr, List, [], ◌∷◌, ◌++◌, map, Option, Some, None, refl, sym, ◌∙◌, ap, subst, true}
use Rattle.std.specs.Prelude.{IsSome}
use Rattle.std.proofs.lemmas.List.{map-append, append_cancel_left}
use Rattle.base_devices.specs.Content.{Content}
use Rattle.base_model.specs.declared.labels.Label.{Label}
use Rattle.base_model.specs.declared.wal.WalPart.{WalPart}
use Rattle.base_model.specs.ManifestText.{IsManifestText}
use Rattle.base_model.specs.Names.{backup_info, manifest_name}
use Rattle.base_model.specs.Pair.{PairIs}
use Rattle.base_model.specs.Text.{Text, In}
use Rattle.base_model.specs.Values.{BackupInfo, Entry, Manifest}
use Rattle.base_model.specs.Repository.{Backup, Stanza, Repository, IsSound, IsSoundStanza, IsSoundBackup, AreSound}
use Rattle.base_model.specs.Represents.{Represents, HasStanza, backup_value}
use Rattle.base_model.specs.Steps.{Step, Turn, AddBackup, MakeBackup, after, all_of, changed, steps_of}
use Rattle.base_model.specs.Now.{NowRepresents, NowEffect}
use Rattle.backup_record.proofs.Left.{OneManifest, pair_one}
use Rattle.repo_stanza.proofs.Settled.{OneList, one_pair}
use Rattle.backup_lemmas.proofs.Begun.{known_as}
use Rattle.backup_lemmas.proofs.Running.{all_steps, with_it}
use Rattle.backup_lemmas.proofs.Waited.{waited}

abbrev entry_of : Backup → Entry
entry_of b = b.entry

in_last : (b : Backup) (bs : List Backup) → In b (bs ++ b ∷ [])
in_last b [] = inl refl
in_last b (x ∷ bs) = inr (in_last b bs)

values_listed : (s : Stanza) (pending : _) → (backup_value s pending).backups ≡ map entry_of s.backups
values_listed s None = refl
values_listed s (Some c) = refl

first_same : (x y : Entry) → ◌≡◌ {A = List Entry} (x ∷ []) (y ∷ []) → x ≡ y
first_same x y e = cc

module _ (one_list : OneList) (one_manifest : OneManifest) (stanza : Text) (f : Content) (s : Stanza) (b c : Backup) (has : HasStanza stanza f (changed (AddBackup b) s)) (other : HasStanza stanza f (changed (AddBackup c) s)) where
  same_list : map entry_of (s.backups ++ b ∷ []) ≡ map entry_of (s.backups ++ c ∷ [])
  same_list = sym (values_listed (changed (AddBackup b) s) has.pending)
      ∙ ap (λ (v : BackupInfo). v.backups) (one_pair one_list f (backup_info stanza) (backup_value (changed (AddBackup b) s) has.pending) (backup_value (changed (AddBackup c) s) other.pending) has.backup_pair other.backup_pair)
      ∙ values_listed (changed (AddBackup c) s) other.pending

  same_entry : b.entry ≡ c.entry
  same_entry = first_same b.entry c.entry (append_cancel_left (map entry_of s.backups) (b.entry ∷ []) (c.entry ∷ [])
      (sym (map-append entry_of s.backups (b ∷ [])) ∙ same_list ∙ map-append entry_of s.backups (c ∷ [])))

  same_wal : b.wal ≡ c.wal
  same_wal =
      let x = has.manifests b (in_last b s.backups) in
      let y = other.manifests c (in_last c s.backups) in
      let label : c.entry.label ≡ b.entry.label = ap (λ (e : Entry). e.label) (sym same_entry) in
      let one : x.0 ≡ y.0 = pair_one one_manifest f (manifest_name stanza b.entry.label) x.0 y.0 x.1 (subst (λ (l : Label). PairIs IsManifestText f (manifest_name stanza l) y.0) label y.1) in
      sym x.2.wal ∙ ap (λ (m : Manifest). m.wal) one ∙ y.2.wal

  -- soundness looks at the entry and at the part of the log
  abbrev Sound : List Backup → Entry → Option WalPart → Type 0
  Sound earlier e w = (let x : Backup = record { entry = e; wal = w; choices = b.choices; folders = b.folders; files = b.files } in IsSoundBackup s earlier x)

  as_other : (earlier : List Backup) → IsSoundBackup (changed (AddBackup c) s) earlier c → IsSoundBackup (changed (AddBackup b) s) earlier b
  as_other earlier h =
      let at : Sound earlier c.entry c.wal = record { cluster = h.cluster; span = h.span; prior = h.prior; segments = h.segments } in
      let is : Sound earlier b.entry b.wal = subst (λ (e : Entry). Sound earlier e b.wal) (sym same_entry) (subst (λ (w : Option WalPart). Sound earlier c.entry w) (sym same_wal) at) in
      record { cluster = is.cluster; span = is.span; prior = is.prior; segments = is.segments }

  are_sound : (earlier bs : List Backup) → AreSound (changed (AddBackup c) s) earlier (bs ++ c ∷ []) → AreSound (changed (AddBackup b) s) earlier (bs ++ b ∷ [])
  are_sound earlier [] h = (as_other earlier h.0, tt)
  are_sound earlier (x ∷ bs) h = (record { cluster = h.0.cluster; span = h.0.span; prior = h.0.prior; segments = h.0.segments }, are_sound (earlier ++ x ∷ []) bs h.1)

  sound_again : IsSoundStanza (changed (AddBackup c) s) → IsSoundStanza (changed (AddBackup b) s)
  sound_again h = record { some = h.some; numbers = h.numbers; neighbours = h.neighbours; ids = h.ids; apart = h.apart; backups = are_sound [] s.backups h.backups }

-- So where a backup was made, and one is given with which the repository is sound, it is sound with what was made.
module _ (one_list : OneList) (one_manifest : OneManifest) (stanza : Text) (ts : List Turn) (b c : Backup) (old new : Option Content) (done : NowEffect stanza (MakeBackup ts b None) true old new)
    (adds : (s : Stanza) → IsSome old → NowRepresents stanza (Some s) old → NowRepresents stanza (after (Some s) (all_of (steps_of (MakeBackup ts c None) (Some s)))) new)
    (sound : (s : Stanza) → IsSome old → NowRepresents stanza (Some s) old → IsSoundStanza s → IsSound (after (Some s) (all_of (steps_of (MakeBackup ts c None) (Some s))))) where
  to_made : (s : Stanza) (x : Backup) → after (Some s) (all_of (steps_of (MakeBackup ts x None) (Some s))) ≡ Some (changed (AddBackup x) (waited s ts))
  to_made s x = ap (after (Some s)) (all_steps s ts x) ∙ with_it s ts x

  has_made : (s : Stanza) (x : Backup) (g : Content) → new ≡ Some g → NowRepresents stanza (after (Some s) (all_of (steps_of (MakeBackup ts x None) (Some s)))) new → HasStanza stanza g (changed (AddBackup x) (waited s ts))
  has_made s x g is represents = subst (λ (r : Repository). Represents stanza g r) (to_made s x) (represents.represents g is)

  pub made_sound : (r : Repository) → IsSome old → NowRepresents stanza r old → IsSound r → IsSound (after r (all_of (steps_of (MakeBackup ts b None) r)))
  made_sound None some represents is = tt
  made_sound (Some s) some represents is =
      let g = known_as new (done.known some) in
      let d = done.does (Some s) tt some represents in
      let made = has_made s b g.0 g.1 (subst (λ (l : List Step). NowRepresents stanza (after (Some s) l) new) d.1 d.2) in
      let other = has_made s c g.0 g.1 (adds s some represents) in
      subst IsSound (sym (to_made s b)) (sound_again one_list one_manifest stanza g.0 (waited s ts) b c made other (subst IsSound (to_made s c) (sound s some represents is)))
