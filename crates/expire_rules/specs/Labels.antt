-- Labels by their fields, and lists of them.
use Rattle.std.specs.Prelude.{Bool, true, false, ◌&&◌, ◌||◌, List, [], ◌∷◌, map, Option, Some, None, nat_eq}
use Rattle.base_model.specs.declared.labels.BackupKind.{BackupKind}
use Rattle.base_model.specs.declared.labels.BackupKind.TheVariants.{Full, Diff, Incr}
use Rattle.base_model.specs.declared.labels.Later.{Later}
use Rattle.base_model.specs.declared.labels.Label.{Label}
use Rattle.base_model.specs.Values.{Entry}

-- whether two kinds are one, and whether a moment is after another
abbrev pub is_kind : BackupKind → BackupKind → Bool
is_kind Full Full = true
is_kind Diff Diff = true
is_kind Incr Incr = true
is_kind a b = false

abbrev pub is_later : Option Later → Option Later → Bool
is_later None None = true
is_later (Some a) (Some b) = nat_eq a.time b.time && is_kind a.kind b.kind
is_later a b = false

-- the two are one label
abbrev pub is_label : Label → Label → Bool
is_label a b = nat_eq a.full b.full && is_later a.later b.later

-- the label is in the list
abbrev pub has_label : List Label → Label → Bool
has_label [] l = false
has_label (k ∷ ks) l = is_label k l || has_label ks l

abbrev pub labels_of : List Entry → List Label
labels_of es = map (λ e. e.label) es
