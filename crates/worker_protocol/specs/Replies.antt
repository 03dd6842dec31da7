-- What a worker replies to a job.
use Rattle.std.specs.Prelude.{ℕ, zero, suc, List, [], ◌∷◌, ◌++◌, length, map, take, drop, Some, None}
use Rattle.std.specs.List.{flat_map}
use Rattle.sha1.specs.Sha1.{sha1}
use Rattle.base_devices.specs.Content.{Content, Value}
use Rattle.base_model.specs.Text.{Text}
use Rattle.worker_protocol.specs.declared.frames.frames.Root.{Root}
use Rattle.worker_protocol.specs.declared.frames.frames.Root.TheVariants.{DataFolder, Repo}
use Rattle.worker_protocol.specs.declared.frames.frames.JobKind.{JobKind}
use Rattle.worker_protocol.specs.declared.frames.frames.JobKind.TheVariants.{Read, Digest}
use Rattle.worker_protocol.specs.Frames.{Item, Job, Frame, spell, part_size}
use Rattle.worker_protocol.specs.Frames.Frame.{Part, End, Vanished, Unread}

-- at most this many parts, each but the last of the longest size
unfoldable pub cut : ℕ → Text → List Text
cut zero bytes = []
cut (suc n) [] = []
cut (suc n) (b ∷ bytes) = take part_size (b ∷ bytes) ∷ cut n (drop part_size (b ∷ bytes))

-- the parts of some bytes: there are no more of them than bytes
unfoldable pub parts : Text → List Text
parts bytes = cut (length bytes) bytes

-- what a job asks of a file
abbrev pub payload : Item → Text → Text
payload i file = take i.size (drop i.at file)

-- the files below the one or the other root
abbrev pub files_of : Root → Content → Content → Content
files_of DataFolder tree repo = tree
files_of Repo tree repo = repo

-- what is still reported of an item with these bytes, where these more are to come, and then what comes next
unfoldable pub item_rest : JobKind → Text → Text → List Frame → List Frame
item_rest Read whole more next = map Part (parts more) ++ End (length whole) (sha1 whole) ∷ next
item_rest Digest whole more next = End (length whole) (sha1 whole) ∷ next

-- an absent file of the data folder is reported, one of the repository ends the reply
abbrev pub absent_reply : Root → List Frame → List Frame
absent_reply DataFolder next = Vanished ∷ next
absent_reply Repo next = Unread ∷ []

abbrev pub item_reply : JobKind → Item → Value → List Frame → List Frame
item_reply kind i None next = absent_reply i.root next
item_reply kind i (Some file) next = item_rest kind (payload i file) (payload i file) next

unfoldable pub replies : JobKind → List Item → Content → Content → List Frame
replies kind [] tree repo = []
replies kind (i ∷ is) tree repo = item_reply kind i (files_of i.root tree repo i.path) (replies kind is tree repo)

-- the bytes of a worker's reply, where the roots hold these files
abbrev pub reply : Job → Content → Content → Text
reply job tree repo = flat_map spell (replies job.kind job.items tree repo)
