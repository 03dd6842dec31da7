-- A listed backup keeps its stanza sound.
use Rattle.std.proofs.Common.{◌≡◌, ⊎_elim, List, [], ◌∷◌, ◌++◌, Some, None, sym, subst, append_assoc, Bool, true, false}
use Rattle.std.proofs.lemmas.List.{append-nil}
use Rattle.base_model.specs.Repository.{Backup, Stanza, IsSound, IsSoundStanza, IsSoundBackup, AreSound}
use Rattle.base_model.specs.Steps.{Step, AddBackup, MakeBackup, changed, after, steps_of}
use Rattle.base_model.specs.Log.{IsDone}
use Rattle.base_model.proofs.Logged.{one_part, no_step}

module _ (s : Stanza) (b : Backup) where
  -- what a backup needs of its stanza is there with one backup more
  sound_still : (earlier : List Backup) (x : Backup) → IsSoundBackup s earlier x → IsSoundBackup (changed (AddBackup b) s) earlier x
  sound_still earlier x h = record { cluster = h.cluster; span = h.span; prior = h.prior; segments = h.segments }

  sound_more : (earlier backups : List Backup) → AreSound s earlier backups → IsSoundBackup s (earlier ++ backups) b → AreSound (changed (AddBackup b) s) earlier (backups ++ b ∷ [])
  sound_more earlier [] h new = (sound_still earlier b (subst (λ (l : List Backup). IsSoundBackup s l b) (append-nil earlier) new), tt)
  sound_more earlier (x ∷ backups) h new = (sound_still earlier x h.0, sound_more (earlier ++ x ∷ []) backups h.1 (subst (λ (l : List Backup). IsSoundBackup s l b) (sym (append_assoc earlier (x ∷ []) backups)) new))

  -- At the one repository at which it is made a sound backup keeps it sound.
  pub backup_sound : IsSoundStanza s → IsSoundBackup s s.backups b → IsSoundStanza (changed (AddBackup b) s)
  backup_sound h new = record {
    some = h.some;
    numbers = h.numbers;
    neighbours = h.neighbours;
    ids = h.ids;
    apart = h.apart;
    backups = sound_more [] s.backups h.backups new;
  }

  with_it : (done : List Step) → IsSoundStanza s → IsSoundBackup s s.backups b → done ≡ AddBackup b ∷ [] → IsSound (after (Some s) done)
  with_it done h new e = subst (λ (d : List Step). IsSound (after (Some s) d)) (sym e) (backup_sound h new)

  -- a backup that waited for no step, and after which no expiry follows
  pub made_sound : IsSoundStanza s → IsSoundBackup s s.backups b → (whole : Bool) (done : List Step) → IsDone whole done (steps_of (MakeBackup [] b None) (Some s)) → IsSound (after (Some s) done)
  made_sound h new true done is = with_it done h new is
  made_sound h new false done is = ⊎_elim (no_step (Some s) done h) (with_it done h new) (one_part (AddBackup b) done is)
