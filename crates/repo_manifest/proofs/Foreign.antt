-- A section that no manifest has.
use Rattle.std.proofs.Common.{[], refl, subst}
use Rattle.serde_json.specs.Data.{Data}
use Rattle.base_model.specs.Text.{Text, In}
use Rattle.base_model.specs.InfoText.{Section}
use Rattle.std.specs.Prelude.{List}
use Rattle.repo_manifest.specs.Head.{manifest_names}
use Rattle.repo_manifest.specs.ManifestForm.{IsManifestForm}
use Rattle.repo_manifest.proofs.Whole.{known_names}
use Rattle.repo_manifest.proofs.Wrongs.{form_of}

pub foreign_form : (ss : List Section) (p : Section) (key : Text) (d : Data) → In p ss → ¬ In p.name manifest_names → In (key, d) p.keys → IsManifestForm ss p.name key
foreign_form ss p key d i other there = form_of ss p.name key (record {
  others = [];
  tied = λ a j. absurd j;
  wrong = λ m rules others agree.
      let h = agree.back d (record { at = p; found = i; named = refl; holds = there }) in
      other (subst (λ (n : Text). In n manifest_names) h.named (known_names m h.at h.found));
})
