-- What is restored is one of the stanza's backups.
use Rattle.std.proofs.Common.{◌≡◌, List, Option, Some, None, refl, sym, ap, ◌∙◌, subst}
use Rattle.std.specs.Prelude.{IfSome}
use Rattle.base_devices.specs.Content.{Content}
use Rattle.base_devices.specs.Links.{LinkState}
use Rattle.base_devices.specs.DataFolder.{Nodes}
use Rattle.base_model.specs.Now.{NowRepresents}
use Rattle.base_model.specs.Repository.{Backup, Stanza}
use Rattle.restore_make.specs.Recovered.{IsRestored}
use Rattle.base_model.specs.Represents.{IsManifestOf}
use Rattle.base_model.specs.Text.{Text}
use Rattle.base_model.specs.Values.{Manifest}
use Rattle.worker_pool.specs.Payloads.{AllRead}
use Rattle.restore_choice.specs.Choosing.{IsChosen}
use Rattle.restore_choice.specs.Loading.{HasManifest}
use Rattle.restore_choice.proofs.Represented.{chosen_of, manifest_of_one}
use Rattle.restore_make.specs.Options.{Options}
use Rattle.restore_make.specs.Finished.{AreKnown, Restores}
use Rattle.restore_make.proofs.Headline.{finished_restores}
use Rattle.cmd_restore.specs.Choosing.{OnList}
use Rattle.cmd_restore.specs.Restoring.{Before, Recovers, GivesBackup}
use Rattle.cmd_restore.specs.Texts.{restored_line}

restored_by : (stanza : Text) (used : List LinkState) (o : Options) (m : Manifest) (old new : Option Nodes) → IfSome new (Restores stanza used o m old) → (tree f : Content) (s : Stanza) (b : Backup) → AllRead tree f used → IsManifestOf stanza f s b m → AreKnown o b old tree → IfSome new (IsRestored b o.recovery)
restored_by stanza used o m old None h tree f s b read of known = tt
restored_by stanza used o m old (Some g) h tree f s b read of known = h tree f s b read of known

known_at : (P : Content → Type 0) (o : Option Content) (f : Content) → o ≡ Some f → IfSome o P → P f
known_at P o f is h = subst (λ (x : Option Content). IfSome x P) is h

pub gives_backup : (b : Before) (o : Option Nodes) (lines : Text) → Recovers b o lines → (s : Stanza) (f : Content) → b.repo ≡ Some f → NowRepresents b.stanza (Some s) b.repo → GivesBackup s b f o lines
gives_backup b o lines r s f known now =
    let here : NowRepresents b.stanza (Some s) (Some f) = subst (λ (x : Option Content). NowRepresents b.stanza (Some s) x) known now in
    let chosen = known_at (λ g. OnList b.stanza g (λ v. IsChosen b.stanza b.choice g v r.label)) b.repo f known r.chosen in
    let x = chosen_of b.stanza f s here b.choice chosen.0 chosen.1 r.label chosen.2 in
    let of = manifest_of_one b.stanza f s here x.0 x.2 r.label x.3 r.manifest (known_at (HasManifest b.stanza r.label r.manifest) b.repo f known r.has) in
    record {
      backup = x.0;
      is = x.1;
      line = r.line ∙ ap restored_line (sym x.3);
      restored = λ tree read alike. restored_by b.stanza b.used b.options r.manifest b.nodes o (finished_restores b.stanza b.used b.options r.manifest b.nodes o r.finished) tree f s x.0 read of alike;
    }
