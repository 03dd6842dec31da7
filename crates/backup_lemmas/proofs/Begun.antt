-- What a backup begins from.
use Rattle.std.proofs.Common.{◌≡◌, inl, [], Option, Some, None, refl, sym, ◌∙◌, subst}
use Rattle.std.specs.Prelude.{IfSome, IsSome}
use Rattle.base_devices.specs.Content.{Content}
use Rattle.base_devices.specs.Moments.{View}
use Rattle.base_model.specs.Text.{Text}
use Rattle.base_model.specs.Names.{backup_info}
use Rattle.base_model.specs.InfoFiles.{IsBackupText}
use Rattle.base_model.specs.Pair.{PairIs}
use Rattle.base_model.specs.Values.{ArchiveInfo, BackupInfo}
use Rattle.base_model.specs.Repository.{Stanza, Repository}
use Rattle.base_model.specs.Represents.{Represents, HasStanza}
use Rattle.base_model.specs.Now.{NowRepresents}
use Rattle.base_model.specs.Steady.{IsSteady}
use Rattle.repo_stanza.specs.Judging.{Validates}
use Rattle.cmd_types.specs.Current.{HasValue}
use Rattle.backup_record.specs.Record.{IsListOf}
use Rattle.backup_make.specs.declared.draft.Draft.{Draft}
use Rattle.backup_make.specs.Draft.{stanza_of, old_in, list_in, IsDraft}
use Rattle.backup_lemmas.proofs.Based.{BasedOn, full_based}
use Rattle.repo_stanza.proofs.Settled.{OneList, has_stanza, settled_list}

-- The draft is that of a full backup, and its list is what is kept of the values of the stanza's two pairs.
pub record BeginsFull (draft : Draft) (now : Option Content) : Type 0 where
  pub is_draft : IsDraft draft
  pub no_old : old_in draft ≡ []
  pub no_prior : draft.prior ≡ None
  pub archive : ArchiveInfo
  pub backup : BackupInfo
  pub archive_read : IfSome now (λ f. HasValue (stanza_of draft) f archive)
  pub backup_read : IfSome now (λ f. PairIs IsBackupText f (backup_info (stanza_of draft)) backup)
  pub settles : Validates archive backup (list_in draft)

-- The draft is that of a backup, and its list is what is kept of the values of the stanza's two pairs.
pub record BeginsBackup (draft : Draft) (a : View) : Type 0 where
  pub is_draft : IsDraft draft
  pub based : BasedOn draft a draft.prior
  pub archive : ArchiveInfo
  pub backup : BackupInfo
  pub archive_read : IfSome a.now (λ f. HasValue (stanza_of draft) f archive)
  pub backup_read : IfSome a.now (λ f. PairIs IsBackupText f (backup_info (stanza_of draft)) backup)
  pub settles : Validates archive backup (list_in draft)

-- that of a full one is based on none
pub full_begins : (draft : Draft) (a : View) → BeginsFull draft a.now → BeginsBackup draft a
full_begins draft a begins = record {
  is_draft = begins.is_draft;
  based = full_based draft a begins.no_old begins.no_prior;
  archive = begins.archive;
  backup = begins.backup;
  archive_read = begins.archive_read;
  backup_read = begins.backup_read;
  settles = begins.settles;
}

-- what the disk holds, where it is known
pub known_as : (o : Option Content) → IsSome o → (f : Content) × (o ≡ Some f)
known_as None known = cc
known_as (Some f) known = (f, refl)

if_some : (now : Option Content) (f : Content) (P : Content → Type 0) → IfSome now P → now ≡ Some f → P f
if_some now f P h is = let x : IfSome (Some f) P = subst (λ (o : Option Content). IfSome o P) is h in x

-- what is known represents a repository
pub at_now : (stanza : Text) (now : Option Content) (g : Content) → now ≡ Some g → (r : Repository) → Represents stanza g r → NowRepresents stanza r now
at_now stanza now g is r x = record {
  represents = λ k is_k. let same : g ≡ k = (let e : ◌≡◌ {A = Option Content} (Some g) (Some k) = sym is ∙ is_k in cc) in subst (λ (c : Content). Represents stanza c r) same x;
}

module _ (one_list : OneList) (draft : Draft) (a : View) (begins : BeginsBackup draft a) where
  -- it represents a stanza
  pub stanza_there : (f : Content) → a.now ≡ Some f → (r : Repository) → Represents (stanza_of draft) f r → (s : Stanza) × (r ≡ Some s) × HasStanza (stanza_of draft) f s
  stanza_there f is = has_stanza (stanza_of draft) f begins.archive (if_some a.now f (λ f. HasValue (stanza_of draft) f begins.archive) begins.archive_read is)

  -- whose list is the draft's
  pub list_there : (f : Content) → a.now ≡ Some f → (s : Stanza) → HasStanza (stanza_of draft) f s → IsListOf s (list_in draft)
  list_there f is s h = settled_list (stanza_of draft) f begins.archive (if_some a.now f (λ f. HasValue (stanza_of draft) f begins.archive) begins.archive_read is) one_list begins.backup (list_in draft)
      (if_some a.now f (λ f. PairIs IsBackupText f (backup_info (stanza_of draft)) begins.backup) begins.backup_read is) begins.settles s h

  -- a steady disk is steady at one
  pub no_vacant : IsSome a.now → ¬ IsSteady (stanza_of draft) None a
  no_vacant some steady =
      let f = known_as a.now some in
      let x = stanza_there f.0 f.1 None (steady.represents f.0 (inl f.1)) in
      let e : ◌≡◌ {A = Option Stanza} None (Some x.0) = x.1 in cc

  pub steady_list : IsSome a.now → (s : Stanza) → IsSteady (stanza_of draft) (Some s) a → IsListOf s (list_in draft)
  steady_list some s steady = let f = known_as a.now some in list_there f.0 f.1 s (steady.represents f.0 (inl f.1))
