-- The settings of a recovery besides all else.
use Rattle.std.proofs.Common.{Bool, false, ◌≡◌, refl, sym, ap, ◌∙◌, subst, List, [], Option, Some, None}
use Rattle.std.specs.Prelude.{IfSome}
use Rattle.base_devices.specs.Content.{at}
use Rattle.base_devices.specs.Links.{LinkState}
use Rattle.base_devices.specs.DataFolder.{Nodes, Held}
use Rattle.base_model.specs.declared.labels.Label.{Label}
use Rattle.base_model.specs.ManifestText.{IsManifest}
use Rattle.restore_make.specs.Recovered.{LogFetch, Recovery, conf_path, signal_path}
use Rattle.restore_make.specs.Recovered.Recovery.{FromArchive, Nothing}
use Rattle.base_model.specs.Text.{Text}
use Rattle.base_model.specs.Values.{FileEntry, Manifest}
use Rattle.worker_pool.specs.declared.dispatch.fault.Lost.{Lost}
use Rattle.restore_steps.specs.Files.{temporary_path}
use Rattle.restore_steps.specs.Sources.{source}
use Rattle.restore_make.specs.Options.{Options, is_added}
use Rattle.restore_make.specs.Settings.{WasHeld, HasSettings}
use Rattle.restore_make.specs.Listed.{IsPlain}
use Rattle.worker_pool.specs.Left.{IsLeft}
use Rattle.restore_make.specs.Finished.{AppliesSettings}
use Rattle.restore_make.proofs.Finished.{kept_moved}
use Rattle.restore_make.proofs.Links.{read_before}
use Rattle.restore_make.proofs.Names.{own_path, own_temporary, no_signal}
use Rattle.restore_make.proofs.Plain.{known}
use Rattle.restore_make.proofs.ReadEntries.{ordinary_own}

-- by links that are left
pub held_before : (stanza : Text) (own : Label) (first links : List LinkState) (before after : List Lost) → IsLeft first links before after → (es : List FileEntry) (path : Text) (held : Option Text) → WasHeld stanza own links es path held → WasHeld stanza own first es path held
held_before stanza own first links before after left es path None h = h
held_before stanza own first links before after left es path (Some bytes) h =
    (h.0, h.1, h.2, record { are = h.3.are; read = λ some. read_before first links before after (source stanza own h.0) bytes left (h.3.read some) })

-- nothing is added
pub settles_none : (stanza : Text) (links : List LinkState) (o : Options) (m : Manifest) (marks : List Bool) (nodes : Option Nodes) → o.recovery ≡ Nothing → AppliesSettings stanza links o m marks nodes nodes
settles_none stanza links o m marks nodes is first before after start left plain = subst (λ (r : Recovery). IfSome nodes (IsPlain stanza first o m marks start r)) (sym is) plain

module _ (stanza : Text) (links : List LinkState) (o : Options) (m : Manifest) (rules : IsManifest m) (fetch : LogFetch) (marks : List Bool) (first : List LinkState) (before after : List Lost) (start : Option Nodes) (left : IsLeft first links before after) where
  module _ (ordinary_same : o.recovery ≡ FromArchive fetch) (f g : Nodes) (plain : IsPlain stanza first o m marks start Nothing f) (others : (q : Text) → is_added (FromArchive fetch) q ≡ false → g q ≡ f q) (added : HasSettings stanza m.label links m.files fetch g) where
    own : (e : FileEntry) → is_added o.recovery e.path ≡ false → g e.path ≡ f e.path
    own e h = others e.path (ap (λ (r : Recovery). is_added r e.path) (sym ordinary_same) ∙ h)

    settled : IsPlain stanza first o m marks start (FromArchive fetch) g
    settled = record {
      bare = λ e i bare h. others e.path h ∙ plain.bare e i bare refl;
      filled = λ e i h.
          let x = plain.filled e i h in
          record {
            bytes = x.bytes;
            file = own e (ordinary_own o.recovery e h) ∙ x.file;
            are = x.are;
            read = x.read;
            alone = others (temporary_path e.path) (own_temporary (FromArchive fetch) e.path) ∙ x.alone;
          };
      kept = λ e i. let x = plain.kept e i in kept_moved first o e start f g x (own e (ordinary_own o.recovery e x.ordinary));
      settings = record { held = added.held; was = held_before stanza m.label first links before after left m.files conf_path added.held added.was; conf = added.conf; signal = added.signal };
      folder = λ p i. let off = (rules.folders p i).signal in others p (own_path fetch p off.2 (no_signal fetch p off.0 off.1)) ∙ plain.folder p i;
      nothing = λ p off apart h. others p h ∙ plain.nothing p off apart refl;
    }

  pub settles_some : o.recovery ≡ FromArchive fetch → (old new : Option Nodes) → ((q : Text) → is_added (FromArchive fetch) q ≡ false → at q new ≡ at q old) → IfSome new (HasSettings stanza m.label links m.files fetch) → IfSome old (IsPlain stanza first o m marks start Nothing) → IfSome new (IsPlain stanza first o m marks start o.recovery)
  settles_some is old None others added plain = tt
  settles_some is None (Some g) others added plain = let h : ◌≡◌ {A = Option (Option Held)} (Some (g [])) None = others [] (own_path fetch [] (λ e. cc) (no_signal fetch [] (λ e. cc) (λ e. cc))) in cc
  settles_some is (Some f) (Some g) others added plain = subst (λ (r : Recovery). IsPlain stanza first o m marks start r g) (sym is) (settled is f g plain (λ q h. known q f g (others q h)) added)
