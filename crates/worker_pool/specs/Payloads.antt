-- How jobs end where all links read the same files. Own.
use Rattle.std.specs.Prelude.{ℕ, ◌≡◌, List, [], ◌∷◌, Some, None, IsSomeAnd, slice_get}
use Rattle.std.specs.List.{AllByRecursion}
use Rattle.base_devices.specs.Content.{Content, Value}
use Rattle.base_devices.specs.Links.{LinkState}
use Rattle.worker_protocol.specs.declared.frames.frames.Root.TheVariants.{DataFolder}
use Rattle.worker_protocol.specs.declared.frames.frames.JobKind.{JobKind}
use Rattle.worker_protocol.specs.declared.frames.frames.JobKind.TheVariants.{Read, Digest}
use Rattle.worker_protocol.specs.Frames.{Item, Job}
use Rattle.worker_protocol.specs.Replies.{payload}
use Rattle.worker_protocol.specs.declared.sinks.ItemEnd.{ItemEnd}
use Rattle.worker_protocol.specs.declared.sinks.ItemEnd.TheVariants.{Whole, Vanished}
use Rattle.worker_protocol.specs.PartSinkState.{Held, Done, JobItems, Holds}
use Rattle.worker_pool.specs.Reads.{Reads, IsSumOf, file_of}

-- each link is known, and reads these files
abbrev pub AllRead : Content → Content → List LinkState → Type 0
AllRead tree repo = AllByRecursion (λ s. IsSomeAnd s.known (Reads tree repo))

-- An item ended as its file is. Of a file that is there a read job holds the bytes that it asks for, and each job
-- got their number and digest. An absent file is one of the data folder.
abbrev pub EndsByFile : JobKind → Item → Value → Held → ItemEnd → Type 0
EndsByFile Read i (Some file) held (Whole n sum) = Holds held (payload i file) × IsSumOf n sum.0 (payload i file)
EndsByFile Digest i (Some file) held (Whole n sum) = Holds held [] × IsSumOf n sum.0 (payload i file)
EndsByFile kind i (Some file) held Vanished = ⊥
EndsByFile kind i None held (Whole n sum) = ⊥
EndsByFile kind i None held Vanished = Holds held [] × (i.root ≡ DataFolder)

-- each of these items did
abbrev pub AllEndByFile : JobKind → Content → Content → List Item → List Done → Type 0
AllEndByFile kind tree repo [] [] = Unit {0}
AllEndByFile kind tree repo [] (d ∷ ds) = ⊥
AllEndByFile kind tree repo (i ∷ is) [] = ⊥
AllEndByFile kind tree repo (i ∷ is) (d ∷ ds) = EndsByFile kind i (file_of i tree repo) d.held d.end
    × AllEndByFile kind tree repo is ds

-- where all links read the same files, each item of each job ended as its file is
abbrev pub AllByFile : List Job → List LinkState → List JobItems → Type 0
AllByFile jobs links kept = (tree repo : Content) → AllRead tree repo links → (j : ℕ) (job : Job)
    → slice_get jobs j ≡ Some job → IsSomeAnd (slice_get kept j) (λ k. AllEndByFile job.kind tree repo job.items k.done)
