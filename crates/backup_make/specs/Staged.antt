-- What lies of a backup in its label's folder, before it is listed. Own.
use Rattle.std.specs.Prelude.{◌≡◌, ◌≤◌, List, map, Option, Some, option_map, IfSome, IsSome}
use Rattle.base_devices.specs.Content.{Content, Holds}
use Rattle.base_devices.specs.Links.{LinkState}
use Rattle.base_devices.specs.Moments.{View}
use Rattle.base_devices.specs.States.{last_second}
use Rattle.backup_sink.specs.declared.keeper.EndedItem.{EndedItem}
use Rattle.backup_sink.specs.Sealed.{IsSealed}
use Rattle.backup_make.specs.declared.draft.Draft.{Draft}
use Rattle.backup_make.specs.declared.draft_jobs.Fetched.{Fetched}
use Rattle.backup_make.specs.declared.backup_close.Closed.{Closed}
use Rattle.backup_record.specs.Ends.{JobsCome}
use Rattle.backup_make.specs.Draft.{is_own_of, label_name, jobs_in, IsDraft, IsFree}
use Rattle.backup_make.specs.Online.{Online, IsOnline, online_of}
use Rattle.backup_make.specs.Stored.{Stored}

-- ---- a draft whose jobs are done, and one whose backup has stopped

-- what a staged backup represents: after its files were read, and after it was closed
abbrev pub fetched_draft : Fetched → Draft
fetched_draft f = f.draft

abbrev pub fetched_ends : Fetched → List (List EndedItem)
fetched_ends f = map (λ v. v.items) f.ends.items

abbrev pub closed_draft : Closed → Draft
closed_draft c = fetched_draft c.fetched

abbrev pub closed_ends : Closed → List (List EndedItem)
closed_ends c = fetched_ends c.fetched

abbrev pub closed_online : Closed → Option Online
closed_online c = option_map online_of c.online

-- what a draft keeps whose jobs are done
pub record IsFetched (f : Fetched) : Type 0 where
  pub is_draft : IsDraft (fetched_draft f)
  pub come : JobsCome (jobs_in (fetched_draft f)) (fetched_ends f)

-- and what it keeps when it has stopped
pub record IsClosed (c : Closed) : Type 0 where
  pub fetched : IsFetched c.fetched
  pub within : c.stop ≤ last_second
  pub online : IfSome (closed_online c) IsOnline
  pub free : IfSome (closed_online c) (λ o. IsFree (closed_draft c))

-- it stopped with this, where a server ran
pub record IsClosedOf (f : Fetched) (o : Option Online) (c : Closed) : Type 0 where
  pub draft_is : closed_draft c ≡ fetched_draft f
  pub ends_are : closed_ends c ≡ fetched_ends f
  pub online_is : closed_online c ≡ o

-- ---- what lies there

-- the label file lies at its name
abbrev pub HasLabel : Draft → Option Content → Online → Type 0
HasLabel d now o = IsSome now → Holds now (label_name d) (Some o.label_file)

-- All that links of these read for the draft lies in its label's folder, durably, and so does the label file, where a
-- server ran.
pub record IsStaged (d : Draft) (o : Option Online) (links : List LinkState) (ends : List (List EndedItem))
    (v : View) : Type 0 where
  pub sealed : IsSealed (is_own_of d) v
  pub stored : Stored d links ends v.now
  pub label : IfSome o (HasLabel d v.now)
