-- A manifest's name is that of a main member.
use Rattle.std.proofs.Common.{◌≡◌, inl, refl, sym, subst, rules}
use Rattle.std.specs.Prelude.{codes}
use Rattle.base_model.specs.declared.labels.Label.{Label}
use Rattle.base_model.specs.Text.{Text}
use Rattle.base_model.specs.Names.{label_folder, manifest_name}
use Rattle.base_model.specs.Log.{Manifested}
use Rattle.base_model.proofs.Temporary.{fixed_lasts}
use Rattle.repo_pair.specs.Member.{IsMemberName}

named : (stanza : Text) (l : Label) → IsMemberName (manifest_name stanza l)
named stanza l = record {
  folder = label_folder stanza l;
  last = codes "backup.manifest";
  is = refl;
  plain = search rules;
  lasting = fixed_lasts stanza (manifest_name stanza l) (Manifested (l, inl refl));
}

pub manifest_named : (stanza : Text) (l : Label) (name : Text) → name ≡ manifest_name stanza l → IsMemberName name
manifest_named stanza l name is = subst IsMemberName (sym is) (named stanza l)
