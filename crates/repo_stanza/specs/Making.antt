-- What making a stanza does to the repository that a disk holds, from one state of the disk to another.
use Rattle.std.specs.Prelude.{◌≡◌, ◌⊎◌, None, Some, IfSome, IsSome}
use Rattle.base_devices.specs.Content.{Content}
use Rattle.base_devices.specs.States.{DiskState}
use Rattle.base_model.specs.Text.{Text}
use Rattle.base_model.specs.Repository.{Repository, Stanza}
use Rattle.base_model.specs.Represents.{Represents}
use Rattle.base_model.specs.Steps.{step, Create}
use Rattle.base_model.specs.Steady.{IsSteady, EachImage}
use Rattle.base_model.specs.Now.{NowRepresents, HasNewPairs}
use Rattle.repo_stanza.specs.declared.control.Control.{Control}
use Rattle.repo_stanza.specs.ControlFile.{first_cluster}
use Rattle.repo_stanza.specs.Pairs.{IsStanzaOf, PairsAgree}

-- the repository once the stanza of this cluster is made
abbrev pub with_stanza : Control → Repository → Repository
with_stanza control r = step r (Create (first_cluster control))

-- ---- what was there

-- this holds of what the disk holds, where it is known
abbrev pub NowHas : DiskState → (Content → Type 0) → Type 0
NowHas d Holds = IfSome d.view.now Holds

-- no stanza was there
abbrev pub HadNoStanza : Text → DiskState → Type 0
HadNoStanza stanza old = (r : Repository) → IsSome old.view.now → NowRepresents stanza r old.view.now → r ≡ None

-- a stanza of this cluster was there
abbrev pub HadStanzaOf : Text → Control → DiskState → Type 0
HadStanzaOf stanza control old = (r : Repository) → IsSome old.view.now → NowRepresents stanza r old.view.now
    → (s : Stanza) × (r ≡ Some s) × IsStanzaOf control s

-- ---- what is there now

-- the repository is as before, or the stanza is made
abbrev pub MayMake : Text → Control → DiskState → DiskState → Type 0
MayMake stanza control old new = (r : Repository) → IsSome old.view.now → NowRepresents stanza r old.view.now
    → NowRepresents stanza r new.view.now ⊎ NowRepresents stanza (with_stanza control r) new.view.now

-- the stanza is made
abbrev pub HasMade : Text → Control → DiskState → DiskState → Type 0
HasMade stanza control old new = (r : Repository) → IsSome old.view.now → NowRepresents stanza r old.view.now
    → NowRepresents stanza (with_stanza control r) new.view.now

-- both members of both pairs have the texts of the new stanza
abbrev pub MakesPairs : Text → Control → DiskState → DiskState → Type 0
MakesPairs stanza control old new = IsSome old.view.now
    → IfSome new.view.now (HasNewPairs stanza (first_cluster control))

-- the members of both pairs agree
abbrev pub PairsAgreeAfter : Text → DiskState → DiskState → Type 0
PairsAgreeAfter stanza old new = IsSome old.view.now → IfSome new.view.now (PairsAgree stanza)

-- ---- what a crash leaves

-- of a steady repository each image is as before, or has the stanza
abbrev pub ImagesMayMake : Text → Control → DiskState → DiskState → Type 0
ImagesMayMake stanza control old new = (r : Repository) → IsSteady stanza r old.view → IsSome old.view.now
    → EachImage stanza (λ g. Represents stanza g r ⊎ Represents stanza g (with_stanza control r)) old.view new.view

-- it is steady again, with the stanza
abbrev pub HasMadeSteady : Text → Control → DiskState → DiskState → Type 0
HasMadeSteady stanza control old new = (r : Repository) → IsSteady stanza r old.view → IsSome old.view.now
    → IsSteady stanza (with_stanza control r) new.view
