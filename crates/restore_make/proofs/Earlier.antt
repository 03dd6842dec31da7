-- A restore over links that are left, by the links that there were before.
use Rattle.std.proofs.Common.{ℕ, suc, ◌≡◌, inl, inr, refl, List, [], ◌∷◌, Option, Some, None, slice_get}
use Rattle.std.specs.Prelude.{IfSome, IsSomeAnd}
use Rattle.std.specs.List.{AllByRecursion}
use Rattle.base_devices.specs.Content.{Content}
use Rattle.base_devices.specs.Links.{LinkState, Modelled}
use Rattle.base_devices.specs.DataFolder.{Nodes}
use Rattle.base_model.specs.declared.labels.Label.{Label}
use Rattle.restore_make.specs.Recovered.{Recovery, conf_path}
use Rattle.restore_make.specs.Recovered.Recovery.{FromArchive, Nothing}
use Rattle.base_model.specs.Text.{Text}
use Rattle.base_model.specs.Values.{FileEntry, Manifest}
use Rattle.worker_protocol.specs.Frames.{Item}
use Rattle.worker_pool.specs.Reads.{Reads, SumsBy}
use Rattle.worker_pool.specs.Going.{IsSame}
use Rattle.worker_pool.specs.Payloads.{AllRead}
use Rattle.worker_pool.specs.declared.dispatch.fault.Lost.{Lost}
use Rattle.worker_pool.proofs.Reading.{all_at}
use Rattle.restore_steps.specs.Sources.{source}
use Rattle.restore_make.specs.Options.{Options}
use Rattle.worker_pool.specs.Digests.{IsDigestedBy}
use Rattle.restore_make.specs.Settings.{HasAdded}
use Rattle.worker_pool.specs.Left.{IsLeft}
use Rattle.restore_make.specs.Finished.{HasCome, IsFinished}
use Rattle.worker_pool.proofs.Links.{reads_as}
use Rattle.restore_make.proofs.Links.{read_before}
use Rattle.restore_make.proofs.Settled.{held_before}

known_as_same : (tree repo : Content) (a b : Option Modelled) → IsSame a b → IsSomeAnd a (Reads tree repo) → IsSomeAnd b (Reads tree repo)
known_as_same tree repo None b same reads = absurd reads
known_as_same tree repo (Some a) None same reads = absurd same
known_as_same tree repo (Some a) (Some b) same reads = reads_as tree repo b a same.0 reads

all_by : {X : Type 0} (P : X → Type 0) (xs : List X) → ((i : ℕ) (x : X) → slice_get xs i ≡ Some x → P x) → AllByRecursion P xs
all_by P [] each = tt
all_by P (x ∷ xs) each = (each 0 x refl, all_by P xs (λ i y is. each (suc i) y is))

-- what a link that is left reported was given by one of the first
sums_known : (a b : Option Modelled) (item : Item) (n : ℕ) (sum : Text) → IsSame a b → SumsBy b item n sum → SumsBy a item n sum
sums_known None b item n sum same r = tt
sums_known (Some a) None item n sum same r = absurd same
sums_known (Some a) (Some b) item n sum same r = λ tree repo reads. r tree repo (reads_as tree repo b a same.0 reads)

module _ (stanza : Text) (links now : List LinkState) (before after : List Lost) (left : IsLeft links now before after) where
  -- links that are left read what the first read
  read_left : (tree repo : Content) → AllRead tree repo links → AllRead tree repo now
  read_left tree repo all = all_by (λ (s : LinkState). IsSomeAnd s.known (Reads tree repo)) now (λ i s is.
      let x = left.each i s is in
      known_as_same tree repo x.from.known s.known x.same (all_at (λ (t : LinkState). IsSomeAnd t.known (Reads tree repo)) links x.link x.from all x.is))

  digested_before : (item : Item) (n : ℕ) (sum : Text) → IsDigestedBy now item n sum → IsDigestedBy links item n sum
  digested_before item n sum d =
      let x = left.each d.link d.from d.is in
      record { link = x.link; from = x.from; is = x.is; sums = sums_known x.from.known d.from.known item n sum x.same d.sums }

  come_before : (own : Label) (o : Options) (e : FileEntry) (old : Option Nodes) (f : Nodes) → HasCome stanza own now o e old f → HasCome stanza own links o e old f
  come_before own o e old f (inl x) = inl (record { bytes = x.bytes; file = x.file; are = x.are; read = λ some. read_before links now before after (source stanza own e) x.bytes left (x.read some) })
  come_before own o e old f (inr x) = inr (record { delta = x.delta; ordinary = x.ordinary; bytes = x.bytes; was = x.was; is = x.is; size = x.size; digested = digested_before _ e.size e.sum x.digested })

  added_before : (own : Label) (es : List FileEntry) (r : Recovery) (f : Nodes) → HasAdded stanza own now es r f → HasAdded stanza own links es r f
  added_before own es Nothing f x = tt
  added_before own es (FromArchive fetch) f x = record { held = x.held; was = held_before stanza own links now before after left es conf_path x.held x.was; conf = x.conf; signal = x.signal }

  pub finished_before : (o : Options) (m : Manifest) (old new : Option Nodes) → IfSome new (IsFinished stanza now o m old) → IfSome new (IsFinished stanza links o m old)
  finished_before o m old None done = tt
  finished_before o m old (Some f) done = record {
    file = λ e i own. come_before m.label o e old f (done.file e i own);
    alike = λ tree repo read. done.alike tree repo (read_left tree repo read);
    settings = added_before m.label m.files o.recovery f done.settings;
    folder = done.folder;
    nothing = done.nothing;
  }
