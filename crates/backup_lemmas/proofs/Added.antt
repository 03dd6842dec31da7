-- What is known of a backup that is listed.
use Rattle.std.proofs.Common.{◌≡◌, Bool, true, false, List, Option, Some, None, refl, ◌∙◌, ap, Result, Ok, Err}
use Rattle.std.specs.Prelude.{IsSome}
use Rattle.base_devices.specs.Content.{Content}
use Rattle.base_devices.specs.Moments.{View}
use Rattle.base_devices.specs.Links.{LinkState}
use Rattle.base_model.specs.declared.labels.Label.{Label}
use Rattle.base_model.specs.Text.{In}
use Rattle.base_model.specs.Values.{Manifest}
use Rattle.base_model.specs.Repository.{Backup, Stanza}
use Rattle.base_model.specs.Represents.{IsAncestor, IsListed}
use Rattle.base_model.specs.Now.{NowRepresents}
use Rattle.backup_record.proofs.Left.{OneManifest}
use Rattle.backup_make.specs.declared.draft.Draft.{Draft}
use Rattle.backup_make.specs.Draft.{stanza_of}
use Rattle.backup_make.specs.Made.{Makes}
use Rattle.backup_lemmas.specs.Backups.{IsReadOrLeft, AddsBackup}
use Rattle.repo_stanza.proofs.Settled.{OneList}
use Rattle.backup_lemmas.proofs.Reading.{full_backup, read_or_left}
use Rattle.backup_lemmas.proofs.Begun.{BeginsBackup, list_there}
use Rattle.backup_lemmas.proofs.Made.{refers, now_listed, now_sound}

-- It has the draft's label, prior and choices, and what the links read or the prior has, it refers to listed backups
-- before it, and the repository has it too.
pub record IsMade (draft : Draft) (links : List LinkState) (old new : Option Content) (b : Backup) : Type 0 where
  pub label : b.entry.label ≡ draft.label
  pub prior : b.entry.prior ≡ draft.prior
  pub choices : b.choices ≡ draft.choices
  pub read : IsReadOrLeft links (stanza_of draft) old b
  pub refers : (s : Stanza) → IsSome old → NowRepresents (stanza_of draft) (Some s) old → (l : Label) → In l b.entry.references → IsAncestor s.backups l b × IsListed s.backups l
  pub adds : AddsBackup (stanza_of draft) b old new

module _ (one_list : OneList) (one_manifest : OneManifest) (draft : Draft) (links : List LinkState) (a d : View) (begins : BeginsBackup draft a) where
  pub is_made : (makes : Makes draft links true a d) → IsMade draft links a.now d.now (full_backup draft links true a d makes)
  is_made makes = record {
    label = ap (λ (m : Manifest). m.label) makes.manifest_is;
    prior = ap (λ (m : Manifest). m.prior) makes.manifest_is;
    choices = ap (λ (m : Manifest). m.choices) makes.manifest_is;
    read = read_or_left one_manifest draft begins.is_draft links true a d makes begins.based (λ f is s h. list_there one_list draft a begins f is s h);
    refers = refers one_list one_manifest draft links a d begins true makes;
    adds = record {
      adds = now_listed one_list one_manifest draft links a d begins true makes refl;
      sound = now_sound one_list one_manifest draft links a d begins true makes;
    };
  }
