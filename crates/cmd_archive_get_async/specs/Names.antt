-- Where segments lie in the spool that were fetched ahead, and what changes no other name.
use Rattle.std.specs.Prelude.{◌≡◌, ◌++◌, Bool, IsTrue, None, false, nat_eq, codes, if◌then◌else◌}
use Rattle.std.specs.List.{starts_with}
use Rattle.base_text.specs.Sum.{sum_text}
use Rattle.base_devices.specs.Content.{Name, Content, at, is_below}
use Rattle.base_devices.specs.Moments.{View, GrowsBy}
use Rattle.base_model.specs.declared.wal.Segment.{Segment}
use Rattle.base_model.specs.Names.{archive_folder, segment_text}
use Rattle.base_model.specs.Text.{Text, ◌⫽◌}

-- the folder of the segments that were fetched ahead (user guide, "Asynchronous Archiving")
abbrev pub ahead_folder : Text → Text
ahead_folder stanza = archive_folder stanza ⫽ codes "in"

-- what the names of a fetched segment begin with
abbrev pub ahead_prefix : Text → Segment → Text
ahead_prefix stanza segment = ahead_folder stanza ⫽ (segment_text segment ++ codes "-")

-- the name of a fetched segment: the digits of its sum come after the segment's name
abbrev pub ahead_name : Text → Segment → Text → Text
ahead_name stanza segment sum = ahead_prefix stanza segment ++ sum_text sum

-- without the names that begin so
abbrev pub lacking : Name → Content → Content
lacking prefix f q = if starts_with nat_eq q prefix then None else f q

-- Besides these names the disk holds the same, and a crash leaves no more than before.
pub record ChangesWithin (these : Name → Bool) (old new : View) : Type 0 where
  pub now : (n : Name) → these n ≡ false → at n new.now ≡ at n old.now
  pub time : GrowsBy (λ n _. IsTrue (these n)) (λ n. IsTrue (these n)) old new

-- nothing changes but below the folder of the fetched segments
abbrev pub ChangesAhead : Text → View → View → Type 0
ChangesAhead stanza old new = ChangesWithin (is_below (ahead_folder stanza)) old new
