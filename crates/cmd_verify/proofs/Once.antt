-- A file that lies in another backup's folder is reported there, where that backup has it as its own.
use Rattle.std.proofs.Common.{◌≡◌, ◌<◌, ℕ, Option, Some, None, sym, ap, ap₂, ◌∙◌, subst}
use Rattle.std.specs.Prelude.{unwrap_or}
use Rattle.base_devices.specs.Content.{Content}
use Rattle.base_model.specs.declared.labels.Label.{Label}
use Rattle.base_model.specs.declared.files.Bundled.{Bundled}
use Rattle.base_model.specs.Text.{Text}
use Rattle.base_model.specs.Names.{file_name, bundle_name}
use Rattle.base_model.specs.Place.{place, place_by}
use Rattle.base_model.specs.Values.{FileEntry}
use Rattle.cmd_verify.specs.What.{What}
use Rattle.cmd_verify.specs.Findings.{BytesDeviate, EntryDeviates}
use Rattle.cmd_verify.specs.Sharing.{IsOwn}

module _ (stanza : Text) (l r : Label) (e own : FileEntry) (is : IsOwn r e own) where
  holders : unwrap_or own.reference r ≡ unwrap_or e.reference l
  holders = ap (λ (o : Option Label). unwrap_or o r) is.none ∙ sym (ap (λ (o : Option Label). unwrap_or o l) is.refers)

  by_bundle : (b : Option Bundled) → place_by stanza r own b ≡ place_by stanza l e b
  by_bundle None = ap₂ (λ (h : Label) (p : Text). (file_name stanza h p, 0)) holders is.path
  by_bundle (Some b) = ap (λ (h : Label). (bundle_name stanza h b.number, b.at)) holders

  same_place : place stanza r own ≡ place stanza l e
  same_place = ap (place_by stanza r own) is.bundle ∙ by_bundle e.bundle

  -- so it deviates there as it does here
  pub known_there : (f : Content) (name : Text) (what : What) → EntryDeviates stanza f l e name what → EntryDeviates stanza f r own name what
  known_there f name what d = record {
    filled = subst (λ (n : ℕ). 0 < n) (sym is.size) d.filled;
    is = d.is ∙ sym (ap (λ (p : Text × ℕ). p.0) same_place);
    deviates = subst (λ (p : Text × ℕ). BytesDeviate (f name) p.1 own.size own.sum what) (sym same_place)
        (subst (λ (n : ℕ). BytesDeviate (f name) (place stanza l e).1 n own.sum what) (sym is.size) (subst (λ (s : Text). BytesDeviate (f name) (place stanza l e).1 e.size s what) (sym is.sum) d.deviates));
  }
