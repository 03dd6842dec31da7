-- A file that a backup has besides those of its listing. Own.
use Rattle.std.specs.Prelude.{◌≡◌, ◌<◌, ◌^◌, List, [], ◌∷◌, ◌++◌, length, Option, Some, None, if◌then◌else◌}
use Rattle.sha1.specs.Sha1.{sha1}
use Rattle.base_text.specs.declared.sum.Sum.{Sum}
use Rattle.base_devices.specs.Content.{Name}
use Rattle.base_devices.specs.Order.{is_before}
use Rattle.base_model.specs.declared.labels.Label.{Label}
use Rattle.base_model.specs.Text.{Text, In}
use Rattle.base_model.specs.Values.{FileEntry}
use Rattle.base_model.specs.ManifestText.{IsFileEntry}
use Rattle.base_model.specs.Place.{place}
use Rattle.worker_protocol.specs.declared.sinks.ItemEnd.TheVariants.{Whole}
use Rattle.worker_protocol.specs.PartSinkState.{JobItems}
use Rattle.backup_plan.specs.Listed.{Taken}
use Rattle.backup_plan.specs.Filter.{paths_of}

-- one value more, in byte order of the paths
abbrev pub put_in : {X : Type 0} → (X → Text) → X → List X → List X
put_in path x [] = x ∷ []
put_in path x (y ∷ ys) = if is_before (path x) (path y) then x ∷ y ∷ ys else y ∷ put_in path x ys

-- the files of a manifest, with one more
abbrev pub with_further : Option FileEntry → List FileEntry → List FileEntry
with_further None files = files
with_further (Some e) files = put_in (λ (d : FileEntry). d.path) e files

-- it may be in a manifest besides these files and folders
pub record MayBeAdded (fs : List Taken) (folders : List Text) (e : FileEntry) : Type 0 where
  pub rules : IsFileEntry folders e
  pub own : e.reference ≡ None
  pub free : ¬ In e.path (paths_of fs)
  pub apart : ¬ In e.path folders
  pub short : e.size < 2 ^ 32

-- ---- its bytes

-- such a file: its entry, its bytes, and the name at which they lie
pub record Further : Type 0 where
  pub entry : FileEntry
  pub bytes : Text
  pub name : Name

-- the entry describes the bytes, and the name is its place in the folder of this label
pub record IsFurther (stanza : Text) (label : Label) (x : Further) : Type 0 where
  pub own : x.entry.reference ≡ None
  pub size : x.entry.size ≡ length x.bytes
  pub digest : x.entry.sum ≡ sha1 x.bytes
  pub at : place stanza label x.entry ≡ (x.name, 0)

abbrev pub entry_in : Option Further → Option FileEntry
entry_in None = None
entry_in (Some x) = Some x.entry

abbrev pub sum_in : Further → Sum
sum_in x = record { 0 = x.entry.sum }

-- it counts as one job more, of one item
abbrev pub with_name : Option Further → List Name → List Name
with_name None names = names
with_name (Some x) names = names ++ x.name ∷ []

abbrev pub kept_of : Further → JobItems
kept_of x = record {
  done = record {
    held = record { count = length x.bytes; known = Some x.bytes };
    end = Whole x.entry.size (sum_in x);
  } ∷ [];
  held = record { count = 0; known = Some [] };
}

abbrev pub with_kept : Option Further → List JobItems → List JobItems
with_kept None kept = kept
with_kept (Some x) kept = kept ++ kept_of x ∷ []

-- the entries with their bytes, with one more
abbrev pub with_row : Option Further → List (FileEntry × Text) → List (FileEntry × Text)
with_row None rows = rows
with_row (Some x) rows = put_in (λ (r : FileEntry × Text). r.0.path) (x.entry, x.bytes) rows
