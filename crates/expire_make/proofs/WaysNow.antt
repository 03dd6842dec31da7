-- What the disk holds after the calls of an expiry.
use Rattle.std.proofs.Common.{sym, subst, ◌≡◌, ⊎_elim, ℕ, List, [], ◌∷◌, Option, Some, None}
use Rattle.std.specs.Prelude.{IsSome, IfSome, filter, not}
use Rattle.base_devices.specs.Content.{Name, Content}
use Rattle.base_devices.specs.Moments.{View}
use Rattle.base_disk.specs.Dropped.{IsAbsent}
use Rattle.base_devices.specs.Crash.{FirstOf, AllOf, NowChanges}
use Rattle.base_devices.proofs.Nows.{known_as}
use Rattle.base_model.specs.declared.labels.Label.{Label}
use Rattle.base_model.specs.Text.{Text, In}
use Rattle.base_model.specs.Names.{backup_info}
use Rattle.base_model.specs.Values.{ArchiveInfo, BackupInfo}
use Rattle.base_model.specs.Create.{member_writes}
use Rattle.base_model.specs.Repository.{Archived, Stanza, current_number, IsSoundStanza}
use Rattle.base_model.specs.Represents.{HasStanza}
use Rattle.base_model.specs.Steps.{Condemn, changed, after, all_of, expiry_moves}
use Rattle.base_model.specs.Now.{NowRepresents}
use Rattle.base_model.proofs.Done.{part_none}
use Rattle.expire_rules.specs.declared.rules.Rules.{Rules}
use Rattle.expire_rules.specs.Labels.{labels_of}
use Rattle.expire_rules.specs.Condemned.{is_condemned}
use Rattle.expire_make.specs.Expiry.{listed, retention, NowPartOfExpiry}
use Rattle.expire_make.specs.Losing.{Loses, IsUnlisted, IsUnneeded}
use Rattle.expire_make.specs.Planning.{IsPlan, list_text, keeps_by}
use Rattle.expire_make.proofs.CondemnedRepresents.{IsClosed, condemned_now, condemned_all}
use Rattle.expire_make.proofs.Dropped.{dropped_now}
use Rattle.expire_make.proofs.Forgotten.{forgotten_now, forgotten_all}
use Rattle.expire_make.proofs.RetentionHolds.{closed_here}
use Rattle.expire_make.proofs.Emptied.{all_now}
use Rattle.expire_make.specs.Unneeded.{ids_in}
use Rattle.expire_make.proofs.Ways.{history_is, text_is, left_entries, covers, current_is, some_forgotten, none_of, same_unneeded, all_unneeded}

module _ (stanza : Text) (rules : Rules) (moment : ℕ) (labels : List Label) (w : BackupInfo) (archive : ArchiveInfo) (s : Stanza) where
  abbrev left : Stanza
  left = changed (Condemn (is_condemned rules moment (listed s))) s

  abbrev xs : List Archived
  xs = filter (λ a. not ((retention rules moment).needed left a)) s.archived

  pub now_start : (o : Option Content) → NowRepresents stanza (Some s) o → NowPartOfExpiry stanza (retention rules moment) s o
  now_start o now = ([], part_none (expiry_moves (retention rules moment) s), now)

  now_condemned : (o : Option Content) → NowRepresents stanza (Some left) o → NowPartOfExpiry stanza (retention rules moment) s o
  now_condemned o now = (Condemn (is_condemned rules moment (listed s)) ∷ [], some_forgotten stanza rules moment labels w archive s [] (none_of stanza rules moment labels w archive s xs), now)

  module _ (a : Option Content) (known : IsSome a) (now : NowRepresents stanza (Some s) a) (sound : IsSoundStanza s) (plan : IfSome a (λ f. IsPlan stanza rules moment f labels w archive)) where
    start : (f : Content) × (a ≡ Some f)
    start = known_as a known

    planned : IsPlan stanza rules moment start.0 labels w archive
    planned = let P : Option Content → Type 0 = λ o. IfSome o (λ f. IsPlan stanza rules moment f labels w archive) in let at : P (Some start.0) = subst P start.1 plan in at

    has : HasStanza stanza start.0 s
    has = now.represents start.0 start.1

    closed : IsClosed s (is_condemned rules moment (listed s))
    closed = closed_here stanza rules moment start.0 s has

    pub saved_now : (b : Option Content) → NowChanges (FirstOf (member_writes (backup_info stanza) (list_text w))) a b → NowPartOfExpiry stanza (retention rules moment) s b
    saved_now b goes = ⊎_elim (now_start b) (now_condemned b) (condemned_now stanza (list_text w) s (is_condemned rules moment (listed s)) closed None tt (text_is stanza rules moment start.0 labels w archive planned s has) a b known now goes)

    module _ (b : Option Content) (saved : NowChanges (AllOf (member_writes (backup_info stanza) (list_text w))) a b) where
      now_b : NowRepresents stanza (Some left) b
      now_b = condemned_all stanza (list_text w) s (is_condemned rules moment (listed s)) closed None tt (text_is stanza rules moment start.0 labels w archive planned s has) a b known now saved

      known_b : IsSome b
      known_b = saved.known known

      module _ (c : Option Content) (lost : NowChanges (Loses (IsUnlisted stanza (labels_of w.backups))) b c) where
        now_c : NowRepresents stanza (Some left) c
        now_c = dropped_now stanza (labels_of w.backups) left (covers stanza rules moment start.0 labels w archive planned s has) b c known_b now_b lost

        known_c : IsSome c
        known_c = lost.known known_b

        pub lost_now : NowPartOfExpiry stanza (retention rules moment) s c
        lost_now = now_condemned c now_c

        pub gone_now : (d : Option Content) → NowChanges (Loses (IsUnneeded stanza (keeps_by rules archive.current w.backups))) c d → NowPartOfExpiry stanza (retention rules moment) s d
        gone_now d goes =
            let x = forgotten_now stanza (keeps_by rules (current_number left) (listed left)) left sound.apart c d known_c now_c
            (same_unneeded stanza rules moment labels w archive s w.backups (left_entries stanza rules moment start.0 labels w archive planned s has) (current_is stanza rules moment start.0 labels w archive planned s has) (λ S. NowChanges S c d) goes) in
            (Condemn (is_condemned rules moment (listed s)) ∷ x.0, some_forgotten stanza rules moment labels w archive s x.0 x.1, x.2)

        pub gone_all : (cv dv : View) → cv.now ≡ c → NowChanges (Loses (IsUnneeded stanza (keeps_by rules archive.current w.backups))) cv.now dv.now
            → ((n : Name) → (u : IsUnneeded stanza (keeps_by rules archive.current w.backups) n) → In u.id (ids_in archive.history) → IsAbsent dv.now n) → NowRepresents stanza (after (Some s) (all_of (expiry_moves (retention rules moment) s))) dv.now
        gone_all cv dv same part absent =
            let now_v : NowRepresents stanza (Some left) cv.now = subst (λ (o : Option Content). NowRepresents stanza (Some left) o) (sym same) now_c in
            let known_v : IsSome cv.now = subst (λ (o : Option Content). IsSome o) (sym same) known_c in
            forgotten_all stanza (keeps_by rules (current_number left) (listed left)) left sound.apart cv.now dv.now known_v now_v
            (all_unneeded stanza rules moment labels w archive s w.backups (left_entries stanza rules moment start.0 labels w archive planned s has) (current_is stanza rules moment start.0 labels w archive planned s has) (λ S. NowChanges S cv.now dv.now)
            (all_now stanza (keeps_by rules archive.current w.backups) left sound.ids archive.history (history_is stanza rules moment start.0 labels w archive planned s has) cv dv part absent now_v))
