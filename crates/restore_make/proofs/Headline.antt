-- A restore over links that read a repository leaves the restored tree of its backup.
use Rattle.std.proofs.Common.{ℕ, zero, suc, Bool, true, false, bytes_eq, ◌||◌, ◌≡◌, ◌≢◌, ◌⊎◌, inl, inr, ⊎_elim, ◌<◌, ◌+◌, ◌-◌, refl, sym, ap, ◌∙◌, subst, arith, cond, List, [], ◌∷◌, length, take, drop, map, Option, Some, None, option_map, slice_get}
use Rattle.std.specs.Prelude.{IfSome, IsSomeAnd}
use Rattle.std.specs.List.{AllByRecursion, list_any}
use Rattle.std.specs.FinMap.{get, keys, contains_key-keys}
use Rattle.std.specs.Option.{is_some}
use Rattle.std.specs.Ordering.{eq_by_cmp}
use Rattle.std.proofs.lemmas.Map.Text.{is_eq-slice_cmp}
use Rattle.std.proofs.lemmas.Slice.Eq.{bytes_eq-Decides}
use Rattle.sha1.specs.Sha1.{sha1}
use Rattle.base_devices.specs.Content.{Content, Value}
use Rattle.base_devices.specs.Links.{LinkState, Modelled}
use Rattle.base_devices.specs.DataFolder.{Nodes, Held, file, folder, file_bytes}
use Rattle.base_model.specs.declared.labels.Label.{Label}
use Rattle.base_model.specs.Text.{Text, In, Map, text_cmp}
use Rattle.base_model.specs.Values.{FileEntry, Manifest}
use Rattle.base_model.specs.Place.{place, LiesAt}
use Rattle.base_model.specs.Repository.{File, Backup, Stanza}
use Rattle.base_model.specs.Represents.{IsManifestOf, IsEntryOf}
use Rattle.worker_protocol.specs.Frames.{Item}
use Rattle.worker_pool.specs.Reads.{Reads, ReadBy, SumsBy, IsSumOf, IsPayload, file_of}
use Rattle.worker_pool.specs.Payloads.{AllRead}
use Rattle.restore_steps.specs.Clearing.{HasTimed}
use Rattle.restore_make.specs.Recovered.Recovery.{FromArchive, Nothing}
use Rattle.base_model.specs.Restored.{contents, listed_times, HasTimes}
use Rattle.restore_make.specs.Recovered.{LogFetch, Recovery, conf_path, signal_path, with_block, IsRestored}
use Rattle.restore_steps.proofs.Paths.{take_whole}
use Rattle.restore_make.specs.Options.{Options, is_added}
use Rattle.restore_make.specs.Entries.{AreOf}
use Rattle.restore_make.specs.Kept.{in_folder, IsKept, AreFilesOf}
use Rattle.restore_make.specs.Settings.{WasHeld, HasSettings, HasAdded}
use Rattle.restore_make.proofs.Names.{other_path, own_path}
use Rattle.restore_make.specs.Written.{IsReadOf}
use Rattle.restore_steps.specs.Sources.{source}
use Rattle.restore_make.specs.Finished.{HasEntry, HasCome, IsFinished, AreKnown, Restores}
use Rattle.restore_make.proofs.Plain.{in_paths, path_in}

-- ---- what a link read

all_at : {X : Type 0} (P : X → Type 0) (xs : List X) (i : ℕ) (x : X) → AllByRecursion P xs → slice_get xs i ≡ Some x → P x
all_at P [] i x all e = cc
all_at P (y ∷ ys) zero x all e = let h : ◌≡◌ {A = Option _} (Some y) (Some x) = e in let same : y ≡ x = cc in subst P same all.0
all_at P (y ∷ ys) (suc i) x all e = all_at P ys i x all.1 e

read_as : (tree repo : Content) (t : Option Modelled) (item : Item) (bytes : Text) → IsSomeAnd t (Reads tree repo) → ReadBy t item bytes → IsPayload item (file_of item tree repo) bytes
read_as tree repo None item bytes reads r = absurd reads
read_as tree repo (Some t) item bytes reads r = r tree repo reads

summed_as : (tree repo : Content) (t : Option Modelled) (item : Item) (n : ℕ) (sum : Text) → IsSomeAnd t (Reads tree repo) → SumsBy t item n sum → (bytes : Text) × IsPayload item (file_of item tree repo) bytes × IsSumOf n sum bytes
summed_as tree repo None item n sum reads r = absurd reads
summed_as tree repo (Some t) item n sum reads r = r tree repo reads

by_value : (i : Item) (o : Value) (whole bytes : Text) → o ≡ Some whole → IsPayload i o bytes → bytes ≡ take i.size (drop i.at whole)
by_value i o whole bytes is p = subst (λ (x : Value). IsPayload i x bytes) is p

no_bytes : (b : Text) → length b ≡ 0 → b ≡ []
no_bytes [] e = refl
no_bytes (x ∷ b) e = absurd (omega (arith, e))

either : (n : ℕ) → (0 < n) ⊎ (n ≡ 0)
either n = grind arith

-- ---- keys

any_in : (ks : List Text) (q : Text) → list_any (eq_by_cmp text_cmp q) ks ≡ true → In q ks
any_in [] q h = cc
any_in (k ∷ ks) q h = by (eq_by_cmp text_cmp q k) (sym (is_eq-slice_cmp q k)) h (any_in ks q)
  where
    by : (b : Bool) → bytes_eq q k ≡ b → (b || list_any (eq_by_cmp text_cmp q) ks) ≡ true → (list_any (eq_by_cmp text_cmp q) ks ≡ true → In q ks) → In q (k ∷ ks)
    by true is t next = inl ((bytes_eq-Decides q k).0 is)
    by false is t next = inr (next t)

or_true : (b : Bool) → (b || true) ≡ true
or_true true = refl
or_true false = refl

in_any : (ks : List Text) (q : Text) → In q ks → list_any (eq_by_cmp text_cmp q) ks ≡ true
in_any [] q i = absurd i
in_any (k ∷ ks) q (inl e) = ap (λ (b : Bool). b || list_any (eq_by_cmp text_cmp q) ks) (is_eq-slice_cmp q k ∙ (bytes_eq-Decides q k).1 e)
in_any (k ∷ ks) q (inr i) = ap (λ (b : Bool). eq_by_cmp text_cmp q k || b) (in_any ks q i) ∙ or_true (eq_by_cmp text_cmp q k)

keyed : (m : Map File) (q : Text) (x : File) → get m q ≡ Some x → In q (keys m)
keyed m q x is = any_in (keys m) q (sym (contains_key-keys m q) ∙ ap is_some is)

valued : (m : Map File) (q : Text) → In q (keys m) → get m q ≢ None
valued m q i none = let h : ◌≡◌ {A = Bool} true false = sym (in_any (keys m) q i) ∙ sym (contains_key-keys m q) ∙ ap is_some none in cc

module _ (stanza : Text) (links : List LinkState) (tree repo : Content) (read : AllRead tree repo links) where
  -- the bytes at an entry's place
  read_exact : (own : Label) (e : FileEntry) (x : File) (bytes : Text) → e.size ≡ length x.bytes → LiesAt repo (place stanza own e) x.bytes → IsReadOf links (source stanza own e) bytes → bytes ≡ x.bytes
  read_exact own e x bytes size lies r =
      let p = read_as tree repo r.from.known (source stanza own e) bytes (all_at (λ s. IsSomeAnd s.known (Reads tree repo)) links r.link r.from read r.is) r.read in
      let whole = by_value (source stanza own e) (repo (place stanza own e).0) lies.0 bytes lies.1 p in
      let long : e.size ≡ (place stanza own e).1 + length x.bytes - (place stanza own e).1 = omega (arith, size) in
      whole ∙ ap (λ (n : ℕ). take n (drop (place stanza own e).1 lies.0)) long ∙ lies.2

  entry_bytes : (own : Label) (e : FileEntry) (x : File) (bytes : Text) → IsEntryOf stanza repo own x e → AreOf e bytes → (0 < e.size → IsReadOf links (source stanza own e) bytes) → bytes ≡ x.bytes
  entry_bytes own e x bytes of are read_at = ⊎_elim
      (λ (some : 0 < e.size). read_exact own e x bytes of.size (of.stored some) (read_at some))
      (λ (none : e.size ≡ 0). no_bytes bytes (are.0 ∙ none) ∙ sym (no_bytes x.bytes (sym of.size ∙ none)))
      (either e.size)

  -- a file of the entry's bytes and time is the backup's
  timed_as : (e : FileEntry) (x : File) (bytes : Text) (f : Nodes) → bytes ≡ x.bytes → e.time ≡ x.time → HasTimed e.path bytes e.time f → HasTimed e.path x.bytes x.time f
  timed_as e x bytes f same time has = has ∙ ap (λ (b : Text). Some (file b e.time)) same ∙ ap (λ (n : ℕ). Some (file x.bytes n)) time

  entry_exact : (own : Label) (e : FileEntry) (x : File) (f : Nodes) → IsEntryOf stanza repo own x e → HasEntry stanza own links e e.path f → HasTimed e.path x.bytes x.time f
  entry_exact own e x f of has = timed_as e x has.bytes f (entry_bytes own e x has.bytes of has.are has.read) of.time has.file

  -- a file that was kept, whose bytes no digest takes for others
  kept_exact : (o : Options) (own : Label) (e : FileEntry) (x : File) (old : Option Nodes) (f : Nodes) → IsEntryOf stanza repo own x e → IsKept links o e old f → AreFilesOf old tree
      → ((bytes : Text) → tree e.path ≡ Some bytes → length bytes ≡ length x.bytes → sha1 bytes ≡ sha1 x.bytes → bytes ≡ x.bytes) → HasTimed e.path x.bytes x.time f
  kept_exact o own e x None f of has files single = let h : ◌≡◌ {A = Option (Option Held)} None (Some (Some (file has.bytes has.was.0))) = has.was.1 in cc
  kept_exact o own e x (Some g) f of has files single =
      let h : ◌≡◌ {A = Option (Option Held)} (Some (g e.path)) (Some (Some (file has.bytes has.was.0))) = has.was.1 in
      let held : g e.path ≡ Some (file has.bytes has.was.0) = cc in
      let there : tree e.path ≡ Some has.bytes = files e.path ∙ ap file_bytes held in
      let d = has.digested in
      let sums = summed_as tree repo d.from.known (in_folder e) e.size e.sum (all_at (λ s. IsSomeAnd s.known (Reads tree repo)) links d.link d.from read d.is) d.sums in
      let whole : sums.0 ≡ has.bytes = by_value (in_folder e) (tree e.path) has.bytes sums.0 there sums.1 ∙ take_whole has.bytes e.size has.size in
      let digest : sha1 has.bytes ≡ sha1 x.bytes = ap sha1 (sym whole) ∙ sym sums.2.digest ∙ of.sum in
      timed_as e x has.bytes f (single has.bytes there (has.size ∙ of.size) digest) of.time has.is

  -- ---- the tree is that of the backup

  module _ (s : Stanza) (b : Backup) (o : Options) (m : Manifest) (old : Option Nodes) (f : Nodes) (of : IsManifestOf stanza repo s b m) (alike : AreKnown o b old tree) (done : IsFinished stanza links o m old f) where
    come : (e : FileEntry) (x : File) → get b.files e.path ≡ Some x → IsEntryOf stanza repo m.label x e → HasCome stanza m.label links o e old f → HasTimed e.path x.bytes x.time f
    come e x is entry (inl has) = entry_exact m.label e x f entry has
    come e x is entry (inr has) = let t = alike has.delta in kept_exact o m.label e x old f entry has t.0 (λ bytes. t.1 e.path bytes x is)

    -- the manifest's entry of a backup's file
    entry_of : (p : Text) (x : File) → get b.files p ≡ Some x → (e : FileEntry) × In e m.files × (p ≡ e.path) × IsEntryOf stanza repo m.label x e
    entry_of p x is =
        let e = in_paths m.files p (subst (λ (l : List Text). In p l) (sym of.paths) (keyed b.files p x is)) in
        let y = of.files e.0 e.1 in
        let h : ◌≡◌ {A = Option File} (Some y.0) (Some x) = sym y.1 ∙ ap (get b.files) (sym e.2) ∙ is in
        let one : y.0 ≡ x = cc in
        let own : m.label ≡ b.entry.label = of.label in
        (e.0, e.1, e.2, subst (λ (l : Label). IsEntryOf stanza repo l x e.0) (sym own) (subst (λ (z : File). IsEntryOf stanza repo b.entry.label z e.0) one y.2))

    -- each file is there, as the backup has it
    there_as : (p : Text) (x : File) → get b.files p ≡ Some x → is_added o.recovery p ≡ false → HasTimed p x.bytes x.time f
    there_as p x is own =
        let d = entry_of p x is in
        ap f d.2 ∙ come d.0 x (ap (get b.files) (sym d.2) ∙ is) d.3 (done.file d.0 d.1 (ap (is_added o.recovery) (sym d.2) ∙ own))

    timed : (p : Text) (time : ℕ) → listed_times b p ≡ Some time → is_added o.recovery p ≡ false → (bytes : Text) × (f p ≡ Some (file bytes time))
    timed p time e own = by (get b.files p) refl e
      where
        by : (y : Option File) → get b.files p ≡ y → option_map (λ (x : File). x.time) y ≡ Some time → (bytes : Text) × (f p ≡ Some (file bytes time))
        by None is h = cc
        by (Some x) is h =
            let k : ◌≡◌ {A = Option ℕ} (Some x.time) (Some time) = h in
            let same : x.time ≡ time = cc in
            (x.bytes, there_as p x is own ∙ ap (λ (n : ℕ). Some (file x.bytes n)) same)

    each : (p bytes : Text) → contents b p ≡ Some bytes → is_added o.recovery p ≡ false → (time : ℕ) × (f p ≡ Some (file bytes time))
    each p bytes e own = by (get b.files p) refl e
      where
        by : (y : Option File) → get b.files p ≡ y → option_map (λ (x : File). x.bytes) y ≡ Some bytes → (time : ℕ) × (f p ≡ Some (file bytes time))
        by None is h = cc
        by (Some x) is h =
            let k : ◌≡◌ {A = Option Text} (Some x.bytes) (Some bytes) = h in
            let same : x.bytes ≡ bytes = cc in
            (x.time, there_as p x is own ∙ ap (λ (t : Text). Some (file t x.time)) same)

    absent : (p : Text) → contents b p ≡ None → get b.files p ≡ None
    absent p e = by (get b.files p) refl e
      where
        by : (y : Option File) → get b.files p ≡ y → option_map (λ (x : File). x.bytes) y ≡ None → get b.files p ≡ None
        by None is h = is
        by (Some x) is h = let k : ◌≡◌ {A = Option Text} (Some x.bytes) None = h in cc

    none : (p : Text) → contents b p ≡ None → ¬ In p b.folders → is_added o.recovery p ≡ false → f p ≡ None
    none p e off own = done.nothing p (λ i. off (subst (λ (l : List Text). In p l) of.folders i))
        (λ d i is. valued b.files p (subst (λ (l : List Text). In p l) of.paths (subst (λ (q : Text). In q (map (λ (x : FileEntry). x.path) m.files)) (sym is) (path_in m.files d i))) (absent p e))
        own

    folder_there : (p : Text) → In p b.folders → f p ≡ Some folder
    folder_there p i = done.folder p (subst (λ (l : List Text). In p l) (sym of.folders) i)

    -- what the backup's file held
    held_is : (path : Text) (held : Option Text) → WasHeld stanza m.label links m.files path held → held ≡ contents b path
    held_is path None was = by (get b.files path) refl
      where
        by : (y : Option File) → get b.files path ≡ y → ◌≡◌ {A = Option Text} None (option_map (λ (x : File). x.bytes) (get b.files path))
        by None is = sym (ap (option_map (λ (x : File). x.bytes)) is)
        by (Some x) is = let e = entry_of path x is in absurd (was e.0 e.1 (sym e.2))
    held_is path (Some bytes) was =
        let y = of.files was.0 was.1 in
        let entry = subst (λ (l : Label). IsEntryOf stanza repo l y.0 was.0) (sym of.label) y.2 in
        ap (λ (t : Text). Some t) (entry_bytes m.label was.0 y.0 bytes entry was.3.are was.3.read) ∙ sym (ap (option_map (λ (x : File). x.bytes)) (ap (get b.files) (sym was.2) ∙ y.1))

    module _ (fetch : LogFetch) (is : o.recovery ≡ FromArchive fetch) (added : HasSettings stanza m.label links m.files fetch f) where
      own : (p : Text) → bytes_eq (signal_path fetch) p ≡ false → bytes_eq conf_path p ≡ false → is_added o.recovery p ≡ false
      own p off_signal off_conf = ap (λ (r : Recovery). is_added r p) is ∙ own_path fetch p (λ e. other_path conf_path p off_conf (sym e)) (λ e. other_path (signal_path fetch) p off_signal (sym e))

      abbrev block : Text
      block = with_block fetch (contents b conf_path)

      there : (p bytes : Text) (at_signal at_conf : Bool) → bytes_eq (signal_path fetch) p ≡ at_signal → bytes_eq conf_path p ≡ at_conf → cond at_signal (Some []) (cond at_conf (Some block) (contents b p)) ≡ Some bytes → (time : ℕ) × (f p ≡ Some (file bytes time))
      there p bytes true at_conf same other e =
          let h : ◌≡◌ {A = Option Text} (Some []) (Some bytes) = e in
          let empty : [] ≡ bytes = cc in
          (added.signal.0, ap f (sym ((bytes_eq-Decides (signal_path fetch) p).0 same)) ∙ added.signal.1 ∙ ap (λ (t : Text). Some (file t added.signal.0)) empty)
      there p bytes false true other same e =
          let h : ◌≡◌ {A = Option Text} (Some block) (Some bytes) = e in
          let whole : with_block fetch added.held ≡ bytes = ap (with_block fetch) (held_is conf_path added.held added.was) ∙ cc in
          (added.conf.0, ap f (sym ((bytes_eq-Decides conf_path p).0 same)) ∙ added.conf.1 ∙ ap (λ (t : Text). Some (file t added.conf.0)) whole)
      there p bytes false false other same e = each p bytes e (own p other same)

      nowhere : (p : Text) (at_signal at_conf : Bool) → bytes_eq (signal_path fetch) p ≡ at_signal → bytes_eq conf_path p ≡ at_conf → cond at_signal (Some []) (cond at_conf (Some block) (contents b p)) ≡ None → ¬ In p b.folders → f p ≡ None
      nowhere p true at_conf same other e off = let h : ◌≡◌ {A = Option Text} (Some []) None = e in cc
      nowhere p false true other same e off = let h : ◌≡◌ {A = Option Text} (Some block) None = e in cc
      nowhere p false false other same e off = none p e off (own p other same)

      timed_there : (p : Text) (time : ℕ) (at_signal at_conf : Bool) → bytes_eq (signal_path fetch) p ≡ at_signal → bytes_eq conf_path p ≡ at_conf → cond at_signal None (cond at_conf None (listed_times b p)) ≡ Some time → (bytes : Text) × (f p ≡ Some (file bytes time))
      timed_there p time true at_conf same other e = cc
      timed_there p time false true other same e = cc
      timed_there p time false false other same e = timed p time e (own p other same)

      with_settings : IsRestored b (FromArchive fetch) f
      with_settings = record {
        tree = record {
          file = λ p bytes e. there p bytes (bytes_eq (signal_path fetch) p) (bytes_eq conf_path p) refl refl e;
          folder = folder_there;
          nothing = λ p e off. nowhere p (bytes_eq (signal_path fetch) p) (bytes_eq conf_path p) refl refl e off;
        };
        timed = λ p time e. timed_there p time (bytes_eq (signal_path fetch) p) (bytes_eq conf_path p) refl refl e;
      }

    by_recovery : (r : Recovery) → o.recovery ≡ r → IsRestored b r f
    by_recovery Nothing is = record {
      tree = record {
        file = λ p bytes e. each p bytes e (ap (λ (r : Recovery). is_added r p) is);
        folder = folder_there;
        nothing = λ p e off. none p e off (ap (λ (r : Recovery). is_added r p) is);
      };
      timed = λ p time e. timed p time e (ap (λ (r : Recovery). is_added r p) is);
    }
    by_recovery (FromArchive fetch) is = with_settings fetch is (subst (λ (r : Recovery). HasAdded stanza m.label links m.files r f) is done.settings)

    restored : IsRestored b o.recovery f
    restored = by_recovery o.recovery refl

pub finished_restores : (stanza : Text) (links : List LinkState) (o : Options) (m : Manifest) (old new : Option Nodes) → IfSome new (IsFinished stanza links o m old) → IfSome new (Restores stanza links o m old)
finished_restores stanza links o m old None done = tt
finished_restores stanza links o m old (Some f) done = λ tree repo s b read of alike. restored stanza links tree repo read s b o m old f of alike done
