-- An expiry that was planned, and carried out.
use Rattle.std.proofs.Common.{◌≡◌, inl, ℕ, List, Option, Some, None, refl, ap, ◌∙◌, subst, true, false}
use Rattle.std.specs.Prelude.{IsSome, IfSome}
use Rattle.base_devices.specs.Content.{Content}
use Rattle.base_devices.specs.Moments.{View}
use Rattle.base_devices.proofs.Nows.{known_as}
use Rattle.base_model.specs.declared.labels.Label.{Label}
use Rattle.base_model.specs.Text.{Text}
use Rattle.base_model.specs.Names.{archive_info}
use Rattle.base_model.specs.InfoFiles.{IsArchiveText}
use Rattle.base_model.specs.Values.{ArchiveInfo, BackupInfo, Entry}
use Rattle.base_model.specs.Repository.{Stanza, Repository, IsSound, IsSoundStanza, current_number}
use Rattle.base_model.specs.Represents.{IsVacant}
use Rattle.base_model.specs.Steps.{Step, Command, Expire, IsPartOf, expiry_moves, after, all_of, steps_of}
use Rattle.base_model.specs.Now.{NowRepresents}
use Rattle.base_model.specs.Steady.{IsSteady, EachImage, LeavesOnly}
use Rattle.cmd_types.specs.declared.stages.plan.SyncScope.TheVariants.{Whole}
use Rattle.cmd_types.specs.DisksEffect.{IsPart, DoesPart, DoesWhole}
use Rattle.repo_stanza.proofs.NewStanza.{no_pair}
use Rattle.expire_rules.specs.declared.rules.Rules.{Rules}
use Rattle.expire_rules.specs.Condemned.{condemned_labels}
use Rattle.expire_make.specs.Expiry.{Touches, listed, retention, IsPartOfExpiry, PartFrom, WholeFrom, HasNeeded}
use Rattle.base_disk.specs.Store.{ChangesOnly}
use Rattle.expire_rules.specs.Labels.{labels_of}
use Rattle.expire_make.specs.Losing.{MayTouch}
use Rattle.expire_make.specs.Planning.{IsPlan, keeps_by, left_of}
use Rattle.expire_make.proofs.OneList.{same_list}
use Rattle.expire_make.proofs.Ways.{entries_are, moves_as}
use Rattle.expire_make.proofs.RetentionHolds.{sound_here, needed_here}

module _ (stanza : Text) (rules : Rules) (moment : ℕ) where
  abbrev command : Command
  command = Expire (retention rules moment)

  -- what is planned is of the stanza that a content has
  plan_at : (labels : List Label) (w : BackupInfo) (archive : ArchiveInfo) (o : Option Content) (f : Content) → o ≡ Some f → IfSome o (λ f. IsPlan stanza rules moment f labels w archive) → IsPlan stanza rules moment f labels w archive
  plan_at labels w archive o f is plan = let P : Option Content → Type 0 = λ x. IfSome x (λ f. IsPlan stanza rules moment f labels w archive) in let at : P (Some f) = subst P is plan in at

  module _ (labels : List Label) (w : BackupInfo) (archive : ArchiveInfo) (a b : View) (plan : IfSome a.now (λ f. IsPlan stanza rules moment f labels w archive)) where
    -- there is a stanza
    not_vacant : (X : Type 0) → (f : Content) → a.now ≡ Some f → IsVacant stanza f → X
    not_vacant X f is vacant = let p = plan_at labels w archive a.now f is plan in absurd (no_pair IsArchiveText f (archive_info stanza) archive vacant.archive_pair p.has.pairs.archive)

    module _ (part : (s : Stanza) → IfSome a.now (λ f. IsPlan stanza rules moment f labels w archive) → IsSoundStanza s → IsSome a.now → PartFrom stanza (retention rules moment) s a b) where
      part_does : (r : Repository) → IsSound r → IsSome a.now → NowRepresents stanza r a.now → (done : List Step) × IsPartOf done (steps_of (Expire (retention rules moment)) r) × NowRepresents stanza (after r done) b.now
      part_does None sound known now = let f = known_as a.now known in not_vacant _ f.0 f.1 (now.represents f.0 f.1)
      part_does (Some s) sound known now = (part s plan sound known).now now

      part_goes : (r : Repository) → IsSome a.now → IsSteady stanza r a → IsSound r → EachImage stanza (IsPart stanza (Expire (retention rules moment)) r) a b
      part_goes None known steady sound = let f = known_as a.now known in not_vacant _ f.0 f.1 (steady.represents f.0 (inl f.1))
      part_goes (Some s) known steady sound =
          let f = known_as a.now known in
          moves_as stanza (IsPartOfExpiry stanza (retention rules moment) s) (IsPart stanza command (Some s)) a b
          (λ g x. (x.0, x.1, x.2, sound_here stanza rules moment f.0 s (steady.represents f.0 (inl f.1)) sound false x.0 x.1))
          ((part s plan sound known).moves steady)

      pub carried_part : (IsSome a.now → IsSome b.now) → DoesPart Whole stanza (Expire (retention rules moment)) a b
      carried_part known = record { part = record { known = known; does = part_does }; goes = part_goes }

    module _ (whole : (s : Stanza) → IfSome a.now (λ f. IsPlan stanza rules moment f labels w archive) → IsSoundStanza s → IsSome a.now → WholeFrom stanza (retention rules moment) s a b) where
      whole_does : (r : Repository) → IsSound r → IsSome a.now → NowRepresents stanza r a.now → (done : List Step) × (done ≡ all_of (steps_of (Expire (retention rules moment)) r)) × NowRepresents stanza (after r done) b.now
      whole_does None sound known now = let f = known_as a.now known in not_vacant _ f.0 f.1 (now.represents f.0 f.1)
      whole_does (Some s) sound known now = (all_of (expiry_moves (retention rules moment) s), refl, (whole s plan sound known).now now)

      whole_ends : (r : Repository) → IsSome a.now → IsSteady stanza r a → IsSound r → IsSteady stanza (after r (all_of (steps_of (Expire (retention rules moment)) r))) b × IsSound (after r (all_of (steps_of (Expire (retention rules moment)) r)))
      whole_ends None known steady sound = let f = known_as a.now known in not_vacant _ f.0 f.1 (steady.represents f.0 (inl f.1))
      whole_ends (Some s) known steady sound =
          let f = known_as a.now known in (
            (whole s plan sound known).steady steady,
            sound_here stanza rules moment f.0 s (steady.represents f.0 (inl f.1)) sound true (all_of (expiry_moves (retention rules moment) s)) refl,
          )

      pub carried_whole : (IsSome a.now → IsSome b.now) → DoesWhole Whole stanza (Expire (retention rules moment)) a b
      carried_whole known = record { done = record { known = known; does = whole_does }; ends = whole_ends }

  -- what stays is there at each moment
  pub keeps_needed : (a b : View) → DoesPart Whole stanza (Expire (retention rules moment)) a b → (s : Stanza) → IsSoundStanza s → IsSome a.now → IsSteady stanza (Some s) a → LeavesOnly (HasNeeded stanza (retention rules moment) s) a b
  keeps_needed a b part s sound known steady t g lo hi leaves =
      let f = known_as a.now known in
      let x = (part.goes (Some s) known steady sound).leaves t g lo hi leaves in
      needed_here stanza rules moment f.0 s (steady.represents f.0 (inl f.1)) g x.0 x.1 x.2

  -- the labels that expire are those of the stanza
  pub labels_are : (labels : List Label) (w : BackupInfo) (archive : ArchiveInfo) (o : Option Content) → IfSome o (λ f. IsPlan stanza rules moment f labels w archive) → (s : Stanza) → IsSome o → NowRepresents stanza (Some s) o → labels ≡ condemned_labels rules moment (listed s)
  labels_are labels w archive o plan s known now =
      let f = known_as o known in
      let here = plan_at labels w archive o f.0 f.1 plan in
      here.are_gone ∙ ap (λ (es : List Entry). condemned_labels rules moment es) (entries_are stanza rules moment f.0 labels w archive here s (now.represents f.0 f.1))

  -- what is changed is by the list that the pairs have
  pub touched : (labels : List Label) (w : BackupInfo) (archive : ArchiveInfo) (a b : View) → IfSome a.now (λ f. IsPlan stanza rules moment f labels w archive) → ChangesOnly (MayTouch stanza (labels_of w.backups) (keeps_by rules archive.current w.backups)) a b
      → Touches stanza rules moment a b
  touched labels w archive a b plan only = record {
    listed = λ f known list is has.
        let here = plan_at labels w archive a.now f is plan in
        let same = same_list stanza f archive known here.list list here.has has in
        subst (λ (v : BackupInfo). ChangesOnly (MayTouch stanza (labels_of v.backups) (keeps_by rules known.current v.backups)) a b) (here.is_left ∙ ap (left_of rules moment) same.1)
        (subst (λ (r : ArchiveInfo). ChangesOnly (MayTouch stanza (labels_of w.backups) (keeps_by rules r.current w.backups)) a b) same.0 only);
    unlisted = λ f is no. let here = plan_at labels w archive a.now f is plan in absurd (no archive here.list here.has);
  }
