-- A whole plain restore but the control file; and the control file, which stays away.
use Rattle.std.proofs.Common.{Bool, true, false, ◌≡◌, ◌≢◌, refl, sym, subst, List, Option, Some, None}
use Rattle.std.specs.Prelude.{IfSome}
use Rattle.base_devices.specs.Content.{at}
use Rattle.base_devices.specs.Links.{LinkState}
use Rattle.base_devices.specs.declared.data_folder.Node.{Node}
use Rattle.base_devices.specs.DataFolder.{Nodes, Held, IsFileAt}
use Rattle.restore_make.specs.Recovered.Recovery.{Nothing}
use Rattle.base_model.specs.Text.{Text, In}
use Rattle.base_model.specs.Values.{FileEntry, Manifest}
use Rattle.base_model.specs.ManifestText.{IsManifest}
use Rattle.restore_steps.specs.Clearing.{control_path, is_bare, Bares, without, with_folders}
use Rattle.restore_make.specs.Options.{Options}
use Rattle.restore_make.specs.Entries.{reads_of, IsFilled, Fills}
use Rattle.restore_make.specs.Kept.{marked, AllAlike}
use Rattle.restore_make.specs.KeptTimes.{AreThere, OnlyShown, SetsTimes}
use Rattle.worker_pool.specs.Left.{IsLeft}
use Rattle.restore_make.specs.Finished.{Rebuilds}
use Rattle.worker_pool.specs.declared.dispatch.fault.Lost.{Lost}
use Rattle.restore_steps.specs.Sources.{source}
use Rattle.restore_make.proofs.Links.{read_before}
use Rattle.restore_make.specs.Listed.{IsListedBut, IsPlain, IsPrepared}
use Rattle.restore_make.proofs.Names.{control_lasts}
use Rattle.restore_make.proofs.ReadEntries.{read_in, in_read, marked_in, ordinary_off, ordinary_some}
use Rattle.restore_make.proofs.Plain.{bare_no_control, shown_there, plain}

unknown : (q : Text) (new : Option Nodes) → at q new ≡ at {X = Option Held} q None → new ≡ None
unknown q None e = refl
unknown q (Some g) e = let h : ◌≡◌ {A = Option (Option Held)} (Some (g q)) None = e in cc

pub known_from : (q : Text) (f : Nodes) (new : Option Nodes) → at q new ≡ at q (Some f) → (g : Nodes) × (new ≡ Some g)
known_from q f None e = let h : ◌≡◌ {A = Option (Option Held)} None (Some (f q)) = e in cc
known_from q f (Some g) e = (g, refl)

bares_control : (m : Manifest) (old new : Option Nodes) → ((q : Text) → ((e : FileEntry) → In e m.files → is_bare e ≡ true → q ≢ e.path) → at q new ≡ at q old) → at control_path new ≡ at control_path old
bares_control m old new others = others control_path (λ e i bare is. bare_no_control e bare (sym is))

-- the files of marked entries are there once the folder is made ready
pub kept_there : (o : Options) (m : Manifest) (marks : List Bool) (seen : List (Text × Node)) → IsManifest m → OnlyShown o seen m.files marks → (old mid : Option Nodes) → IfSome old (λ f. IsListedBut f seen) → IsPrepared m seen old mid → AreThere (marked m.files marks) mid
kept_there o m marks seen rules only None mid listed prepared e i =
    let none : mid ≡ None = unknown control_path mid (subst (λ (x : Option Nodes). at control_path mid ≡ at control_path x) prepared.mid_is (bares_control m prepared.mid mid prepared.bares.others)) in
    subst (λ (x : Option Nodes). IsFileAt x e.path) (sym none) tt
kept_there o m marks seen rules only (Some g) mid listed prepared e i =
    let start : Nodes = with_folders m.folders (without m seen g) in
    let bares = subst (λ (x : Option Nodes). Bares m.files x mid) prepared.mid_is prepared.bares in
    let h = known_from control_path start mid (bares_control m (Some start) mid bares.others) in
    let x = only e i in
    subst (λ (y : Option Nodes). IsFileAt y e.path) (sym h.1)
    (shown_there m rules seen g listed h.0 (subst (λ (y : Option Nodes). Bares m.files (Some start) y) h.1 bares) e (marked_in m.files marks (e, true) i) (ordinary_some o.recovery e x.0) (ordinary_off o.recovery e x.0) x.1)

module _ (stanza : Text) (links : List LinkState) (o : Options) (m : Manifest) (marks : List Bool) where
  abbrev es : List FileEntry
  es = reads_of o.recovery (marked m.files marks)

  fills_control : (old new : Option Nodes) → Fills stanza m.label links es old new → at control_path new ≡ at control_path old
  fills_control old new fills = fills.others control_path (λ e i. (λ is. ordinary_off o.recovery e (in_read o.recovery (marked m.files marks) e i).1 (sym is), control_lasts e.path))

  times_control : (first : List LinkState) (seen : List (Text × Node)) (old new : Option Nodes) → AllAlike first o seen m.files marks → SetsTimes (marked m.files marks) old new → at control_path new ≡ at control_path old
  times_control first seen old new alike times = times.others control_path (λ e i is. ordinary_off o.recovery e (alike e i).ordinary (sym is))

  filled_before : (first : List LinkState) (before after : List Lost) → IsLeft first links before after → (e : FileEntry) (f : Nodes) → IsFilled stanza m.label links e f → IsFilled stanza m.label first e f
  filled_before first before after left e f x = record { bytes = x.bytes; file = x.file; are = x.are; read = read_before first links before after (source stanza m.label e) x.bytes left x.read; alone = x.alone }

  pub rebuilt : IsManifest m → (seen : List (Text × Node)) (old mid timed new : Option Nodes) → IfSome old (λ f. IsListedBut f seen) → IsPrepared m seen old mid → SetsTimes (marked m.files marks) mid timed → Fills stanza m.label links es timed new → Rebuilds stanza links o m seen marks old new
  rebuilt rules seen None p q r listed prepared times fills first before after left alike =
      let none : p ≡ None = unknown control_path p (subst (λ (x : Option Nodes). at control_path p ≡ at control_path x) prepared.mid_is (bares_control m prepared.mid p prepared.bares.others)) in
      let timed : q ≡ None = unknown control_path q (subst (λ (x : Option Nodes). at control_path q ≡ at control_path x) none (times_control first seen p q alike times)) in
      let last : r ≡ None = unknown control_path r (subst (λ (x : Option Nodes). at control_path r ≡ at control_path x) timed (fills_control q r fills)) in
      subst (λ (x : Option Nodes). IfSome x (IsPlain stanza first o m marks None Nothing)) (sym last) tt
  rebuilt rules seen (Some g) p q r listed prepared times fills first before after left alike =
      let start : Nodes = with_folders m.folders (without m seen g) in
      let bares = subst (λ (x : Option Nodes). Bares m.files x p) prepared.mid_is prepared.bares in
      let h = known_from control_path start p (bares_control m (Some start) p bares.others) in
      let t = known_from control_path h.0 q (subst (λ (x : Option Nodes). at control_path q ≡ at control_path x) h.1 (times_control first seen p q alike times)) in
      let k = known_from control_path t.0 r (subst (λ (x : Option Nodes). at control_path r ≡ at control_path x) t.1 (fills_control q r fills)) in
      let timed = subst (λ (x : Option Nodes). SetsTimes (marked m.files marks) (Some h.0) x) t.1 (subst (λ (x : Option Nodes). SetsTimes (marked m.files marks) x q) h.1 times) in
      let done = subst (λ (x : Option Nodes). Fills stanza m.label links es (Some t.0) x) k.1 (subst (λ (x : Option Nodes). Fills stanza m.label links es x r) t.1 fills) in
      subst (λ (x : Option Nodes). IfSome x (IsPlain stanza first o m marks (Some g) Nothing)) (sym k.1)
      (plain stanza links m rules es
      (λ e i. let x = in_read o.recovery (marked m.files marks) e i in (marked_in m.files marks (e, false) x.0, ordinary_some o.recovery e x.1, ordinary_off o.recovery e x.1))
      marks
      (λ e i. let x = alike e i in (marked_in m.files marks (e, true) i, ordinary_some o.recovery e x.ordinary, ordinary_off o.recovery e x.ordinary))
      seen g listed h.0 t.0 k.0
      (subst (λ (x : Option Nodes). Bares m.files (Some start) x) h.1 bares)
      timed
      done
      first o
      (λ e i is. filled_before first before after left e k.0 (done.each e (read_in o.recovery (marked m.files marks) e i is)))
      alike
      (λ d i. (in_read o.recovery (marked m.files marks) d i).0))
