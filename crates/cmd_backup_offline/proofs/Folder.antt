-- A backup of any kind holds the data folder, where all its links read what that folder holds.
use Rattle.std.proofs.Common.{◌≡◌, ◌<◌, ◌==◌, ◌&&◌, ℕ, zero, suc, Bool, true, false, not, List, [], ◌∷◌, length, Option, Some, None, refl, sym, ◌∙◌, ap, subst, arith, bytes_eq, inl, inr}
use Rattle.std.specs.Prelude.{IsSome, unwrap_or}
use Rattle.std.specs.FinMap.{get}
use Rattle.std.proofs.lemmas.Bool.{eqb-true}
use Rattle.std.proofs.lemmas.List.{take_all}
use Rattle.sha1.specs.Sha1.{sha1}
use Rattle.base_devices.specs.Content.{Content, Value}
use Rattle.base_devices.specs.Links.{LinkState}
use Rattle.base_devices.specs.Moments.{View}
use Rattle.base_devices.specs.DataFolder.{Held, Nodes, IsTreeListing, file, file_bytes}
use Rattle.base_devices.proofs.Nows.{known_as}
use Rattle.base_model.specs.declared.labels.Label.{Label}
use Rattle.base_model.specs.Repository.{Backup, File}
use Rattle.base_model.specs.Represents.{HasStanza}
use Rattle.base_model.specs.Text.{Text, In}
use Rattle.base_model.specs.Values.{FileEntry}
use Rattle.worker_protocol.specs.Replies.{payload}
use Rattle.worker_pool.specs.Reads.{IsPayload}
use Rattle.worker_pool.specs.Payloads.{AllRead}
use Rattle.worker_pool.proofs.Digests.{sums_read}
use Rattle.backup_plan.specs.declared.values.Choice.{Choice}
use Rattle.backup_plan.specs.declared.values.Choice.TheVariants.{Skip}
use Rattle.backup_plan.specs.Digests.{is_asked}
use Rattle.backup_plan.specs.Filter.{ListedNode, Takes}
use Rattle.backup_plan.specs.Layout.{item_for}
use Rattle.backup_plan.specs.Listed.{Taken, control_path, entry_at}
use Rattle.backup_record.specs.Entries.{prior_bytes}
use Rattle.backup_record.proofs.Left.{OneManifest}
use Rattle.backup_record.proofs.Rows.{entry_in}
use Rattle.repo_stanza.proofs.Settled.{OneList}
use Rattle.backup_make.specs.declared.draft.Draft.{Draft}
use Rattle.backup_make.specs.Draft.{stanza_of, taken_in, folders_in, old_in}
use Rattle.backup_make.proofs.Offline.{IsHeld, AreHeld}
use Rattle.backup_lemmas.specs.Backups.{bytes_in}
use Rattle.backup_lemmas.proofs.Based.{BasedOn, based_on, represents_there, its_label, old_file, old_held}
use Rattle.backup_lemmas.proofs.Begun.{BeginsBackup, list_there}
use Rattle.backup_lemmas.proofs.Folders.{taken_file}
use Rattle.backup_lemmas.proofs.Prior.{files_before}
use Rattle.cmd_backup_offline.specs.Equal.{IsSame}
use Rattle.cmd_backup_offline.specs.Folder.{ShowsApart, ShowsFrom}
use Rattle.cmd_backup_offline.proofs.Chosen.{AreChosen}

-- a file that is asked for has the entry's size, and some bytes
asked_size : (o : Option FileEntry) (e : FileEntry) (t : Taken) → is_asked o t ≡ true → o ≡ Some e → (e.size ≡ t.size) × (0 < e.size)
asked_size o e t asked is = by (bytes_eq t.path control_path) (t.size == 0) (e.size == t.size) refl refl (subst (λ (x : Option FileEntry). is_asked x t ≡ true) is asked)
  where
    none : (n : ℕ) → (n == 0) ≡ false → 0 < n
    none zero z = absurd (let x : ◌≡◌ {A = Bool} true false = z in cc)
    none (suc n) z = omega arith

    by : (a b c : Bool) → (t.size == 0) ≡ b → (e.size == t.size) ≡ c → (not a && not b && c) ≡ true → (e.size ≡ t.size) × (0 < e.size)
    by false false true z s h = let size = eqb-true e.size t.size s in (size, subst (λ (n : ℕ). 0 < n) (sym size) (none t.size z))
    by true b c z s h = absurd (let x : ◌≡◌ {A = Bool} false true = h in cc)
    by false true c z s h = absurd (let x : ◌≡◌ {A = Bool} false true = h in cc)
    by false false false z s h = absurd (let x : ◌≡◌ {A = Bool} false true = h in cc)

module _ (one_list : OneList) (one_manifest : OneManifest) (draft : Draft) (a : View) (begins : BeginsBackup draft a) (f : Nodes) (seen : List ListedNode) (listing : IsTreeListing f seen)
    (takes : Takes false seen (taken_in draft) (folders_in draft)) (links : List LinkState) (repo : Content) (all : AllRead (bytes_in f) repo links) (delta : Bool) where
  -- what the folder has of a listed file
  there : (t : Taken) → In t (taken_in draft) → (bytes : Text) × (f t.path ≡ Some (file bytes t.time)) × (length bytes ≡ t.size)
  there t i = let x = taken_file f seen listing t (subst (λ (ts : List Taken). In t ts) takes.files i) in (x.0, x.1, x.2)

  -- the entry that makes a file one to be left
  record Matches (t : Taken) (bytes : Text) : Type 0 where
    entry : FileEntry
    is : entry_at t.path (old_in draft) ≡ Some entry
    size : entry.size ≡ t.size
    some : 0 < entry.size
    -- as the file of a backup that the entry is of
    shows : (p : Backup) (x : File) → ShowsApart delta p f → get p.files t.path ≡ Some x → entry.size ≡ length x.bytes → entry.time ≡ x.time → entry.sum ≡ sha1 x.bytes → bytes ≡ x.bytes

  matches : (t : Taken) (bytes : Text) → f t.path ≡ Some (file bytes t.time) → length bytes ≡ t.size → (d : Bool) → d ≡ delta → IsSame links d (old_in draft) t → Matches t bytes
  matches t bytes is size true d same =
      let sized = asked_size (entry_at t.path (old_in draft)) same.entry t same.asked same.is in
      let x = sums_read (bytes_in f) repo links all (item_for t) same.entry.size same.entry.sum same.digested in
      let y : x.0 ≡ payload (item_for t) bytes = subst (λ (v : Value). IsPayload (item_for t) v x.0) (ap file_bytes is) x.1 in
      let whole : payload (item_for t) bytes ≡ bytes = take_all t.size bytes (omega (arith, size)) in
      record {
        entry = same.entry;
        is = same.is;
        size = sized.0;
        some = sized.1;
        shows = λ p own known has sizes times sums.
            subst (λ (k : Bool). ShowsApart k p f) (sym d) known t.path bytes own has (ap file_bytes is)
            (ap (λ (b : Text). length b) (sym (y ∙ whole)) ∙ sym x.2.number ∙ sizes) (ap sha1 (sym (y ∙ whole)) ∙ sym x.2.digest ∙ sums);
      }
  matches t bytes is size false d same =
      let sized = asked_size (entry_at t.path (old_in draft)) same.entry t same.asked same.is in
      record {
        entry = same.entry;
        is = same.is;
        size = sized.0;
        some = sized.1;
        shows = λ p x known has sizes times sums.
            subst (λ (k : Bool). ShowsApart k p f) (sym d) known t.path bytes x has
            (is ∙ ap (λ (n : ℕ). (let h : Option Held = Some (file bytes n) in h)) (sym same.time ∙ times))
            (size ∙ sym sized.0 ∙ sizes);
      }

  -- a file that is left has the folder's bytes
  module _ (known : IsSome a.now) (from : (l : Label) → draft.prior ≡ Some l → ShowsFrom (stanza_of draft) a.now delta f l) where
    left_held : (t : Taken) (bytes : Text) → Matches t bytes → (o : Option Label) → draft.prior ≡ o → BasedOn draft a o → prior_bytes (files_before draft a.now) t.path ≡ bytes
    left_held t bytes m None none based =
        let e : ◌≡◌ {A = Option FileEntry} None (Some m.entry) = ap (λ (es : List FileEntry). entry_at t.path es) (sym based) ∙ m.is in
        absurd (let x : ◌≡◌ {A = Option FileEntry} None (Some m.entry) = e in cc)
    left_held t bytes m (Some l) prior_is base =
        let s = from l prior_is in
        let c = known_as a.now known in
        let h : HasStanza (stanza_of draft) c.0 s.0 = s.1.represents c.0 c.1 in
        let list = list_there one_list draft a begins c.0 c.1 s.0 h in
        let at = entry_in t.path (old_in draft) m.entry m.is in
        let p = based_on one_manifest draft begins.is_draft a l prior_is base c.0 c.1 s.0 list h in
        let y = old_file one_manifest draft begins.is_draft a l prior_is base c.0 c.1 s.0 list h m.entry at.0 in
        let backup_messages = s.2 p (represents_there one_manifest draft begins.is_draft a l prior_is base c.0 c.1 s.0 list h) (its_label one_manifest draft begins.is_draft a l prior_is base c.0 c.1 s.0 list h) in
        ap (λ (q : Text). prior_bytes (files_before draft a.now) q) (sym at.1)
        ∙ old_held one_manifest draft begins.is_draft a l prior_is base c.0 c.1 s.0 list h m.entry at.0 m.some
        ∙ sym (m.shows p y.0 backup_messages (ap (λ (q : Text). get p.files q) (sym at.1) ∙ y.1) y.2.size y.2.time y.2.sum)

    one_held : (t : Taken) (c : Choice) → In t (taken_in draft) → (c ≡ Skip → IsSame links delta (old_in draft) t) → IsHeld (bytes_in f) (files_before draft a.now) t c
    one_held t c i same is =
        let x = there t i in
        left_held t x.0 (matches t x.0 x.1 x.2 delta refl (same is)) draft.prior refl begins.based
        ∙ sym (ap (λ (o : Option Held). unwrap_or (file_bytes o) []) x.1)

    pub all_held : (ts : List Taken) (cs : List Choice) → ((t : Taken) → In t ts → In t (taken_in draft)) → AreChosen links delta (old_in draft) ts cs → AreHeld (bytes_in f) (files_before draft a.now) ts cs
    all_held [] cs each chosen = tt
    all_held (t ∷ ts) [] each chosen = chosen
    all_held (t ∷ ts) (c ∷ cs) each chosen = (one_held t c (each t (inl refl)) chosen.0.0, all_held ts cs (λ g i. each g (inr i)) chosen.1)
