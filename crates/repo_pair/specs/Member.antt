-- The names of main members.
use Rattle.std.specs.Prelude.{◌≡◌, ◌≢◌, ◌⊎◌, ◌++◌, codes, false, IsSome}
use Rattle.std.specs.List.{AllByRecursion}
use Rattle.base_devices.specs.Moments.{View, is_unsynced}
use Rattle.base_devices.specs.Crash.{IsTemporary, IsAlikeAt}
use Rattle.base_model.specs.Text.{Text, ◌⫽◌}
use Rattle.base_model.specs.Names.{copy_of}

-- a name without a slash
abbrev pub IsPlain : Text → Type 0
IsPlain name = AllByRecursion (λ c. c ≢ 47) name

-- a name in a folder that isn't temporary
pub record IsMemberName (name : Text) : Type 0 where
  pub folder : Text
  pub last : Text
  pub is : name ≡ folder ⫽ last
  pub plain : IsPlain last
  pub lasting : ¬ IsTemporary name

-- a member of the pair with this main member
abbrev pub IsMember : Text → Text → Type 0
IsMember name n = (n ≡ name) ⊎ (n ≡ copy_of name)

-- a member of it, or the name at which a member's bytes are put first
abbrev pub IsOfPair : Text → Text → Type 0
IsOfPair name n = (n ≡ name ++ codes ".pgbackrest.tmp") ⊎ IsMember name n

-- where the member wasn't unsynced, and all that a crash left had of it what the disk held, it does so still
abbrev pub KeepsMember : Text → View → View → Type 0
KeepsMember name old new = is_unsynced old name ≡ false → IsSome old.now → IsAlikeAt (λ n. n ≡ name) old
    → IsAlikeAt (λ n. n ≡ name) new

-- where no member was unsynced, and all that a crash left had of both what the disk held, it does so still
abbrev pub KeepsMembers : Text → View → View → Type 0
KeepsMembers name old new = is_unsynced old name ≡ false → is_unsynced old (copy_of name) ≡ false → IsSome old.now
    → IsAlikeAt (IsMember name) old → IsAlikeAt (IsMember name) new
