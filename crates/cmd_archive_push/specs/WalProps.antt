-- A path names a file of the log in one way at most.
use Rattle.std.specs.Prelude.{◌≡◌, ◌⊎◌, ◌++◌, ◌∷◌, codes, length}
use Rattle.std.proofs.Common.{inl, inr, ap, sym, ◌∙◌, arith, length-append}
use Rattle.std.proofs.Props.{props}
use Rattle.std.proofs.lemmas.List.{append_cancel_right}
use mathlib.Core.HLevel.{Σ_prop_path}
use Rattle.base_model.specs.declared.wal.ArchiveName.{ArchiveName}
use Rattle.base_model.specs.declared.wal.ArchiveName.TheVariants.{Segment, Partial, History, Backup}
use Rattle.base_model.specs.Text.{Text}
use Rattle.base_model.specs.Names.{wal_text}
use Rattle.base_model.specs.Represents.{IsWalName}
use Rattle.cmd_archive_push.specs.WalPath.{wal_path, IsPathOf, IsWalPath}

-- of two facts that can't both hold, one holds in one way at most
either_prop : {A B : Type 0} → IsProp A → IsProp B → (A → B → ⊥) → IsProp (A ⊎ B)
either_prop a b off (inl x) (inl y) = ap inl (a x y)
either_prop a b off (inl x) (inr y) = absurd (off x y)
either_prop a b off (inr x) (inl y) = absurd (off y x)
either_prop a b off (inr x) (inr y) = ap inr (b x y)

prefix_prop : (path last : Text) → IsProp ((prefix : Text) × (path ≡ prefix ++ 47 ∷ last))
prefix_prop path last x y = Σ_prop_path (λ prefix. hlevel props) (append_cancel_right x.0 y.0 (47 ∷ last) (sym x.1 ∙
    y.1))

last_prop : (path last : Text) → IsProp ((path ≡ last) ⊎ ((prefix : Text) × (path ≡ prefix ++ 47 ∷ last)))
last_prop path last = either_prop (hlevel props) (prefix_prop path last)
    (λ (e : path ≡ last) (x : (prefix : Text) × (path ≡ prefix ++ 47 ∷ last)). let h : length last ≡ length
    (x.0 ++ 47 ∷ last) = ap length (sym e ∙ x.1) in omega (arith, h, length-append x.0 (47 ∷ last)))

path_prop : (folder path name : Text) → IsProp (IsPathOf folder path name)
path_prop folder path name = either_prop (hlevel props) (hlevel props)
    (λ (e : path ≡ wal_path name) (k : path ≡ folder ++ (codes "/pg_wal/" ++ name)). let h : length
    (wal_path name) ≡ length (folder ++ (codes "/pg_wal/" ++ name)) = ap length (sym e ∙ k) in
    omega (arith, h, length-append folder (codes "/pg_wal/" ++ name)))

name_prop : (name : ArchiveName) → IsProp (IsWalName name)
name_prop (Segment s) = hlevel props
name_prop (Partial s) = hlevel props
name_prop (Backup s offset) = hlevel props
name_prop (History timeline) = hlevel props

-- a path is that of a file of the log in one way alone
pub IsWalPath-prop : (folder path : Text) (name : ArchiveName) → IsProp (IsWalPath folder path name)
IsWalPath-prop folder path name =
    let fits : IsProp (IsWalName name) = name_prop name in
    let last : IsProp ((path ≡ wal_text name) ⊎ ((prefix : Text) × (path ≡ prefix ++ 47 ∷ wal_text name))) =
    last_prop path (wal_text name) in
    let lies : IsProp (IsPathOf folder path (wal_text name)) = path_prop folder path (wal_text name) in
    hlevel props
