-- The two members of a pair that was saved are alike.
use Rattle.std.proofs.Common.{◌≡◌, ◌≢◌, Option, Some, None, refl, sym, ◌∙◌, subst}
use Rattle.std.specs.Prelude.{IfSome, IsSome}
use Rattle.base_devices.specs.Content.{Name, Value, Content, put}
use Rattle.base_devices.specs.Crash.{IsTemporary, NowChanges, AllOf}
use Rattle.base_devices.proofs.Nows.{known_as}
use Rattle.base_disk.proofs.Images.{put_other, put_same}
use Rattle.base_model.specs.Text.{Text}
use Rattle.base_model.specs.Names.{copy_of}
use Rattle.base_model.specs.Create.{member_writes}
use Rattle.repo_stanza.specs.Pairs.{AgreeAt}

module _ (main : Name) (text : Text) (lasts : ¬ IsTemporary main) (copy_lasts : ¬ IsTemporary (copy_of main)) (two : main ≢ copy_of main) where
  both_written : (f g : Content) → AllOf (member_writes main text) f g → AgreeAt main g
  both_written f g all =
      let at_main : g main ≡ Some text = all.same main lasts ∙ put_other (copy_of main) (Some text) (put main (Some text) f) main two ∙ put_same main (Some text) f in
      let at_copy : g (copy_of main) ≡ Some text = all.same (copy_of main) copy_lasts ∙ put_same (copy_of main) (Some text) (put main (Some text) f) in
      (at_copy ∙ sym at_main, subst (λ (v : Value). IsSome v) (sym at_main) refl)

  pub now_alike : (old new : Option Content) → IsSome old → NowChanges (AllOf (member_writes main text)) old new → IfSome new (AgreeAt main)
  now_alike old None some goes = tt
  now_alike old (Some g) some goes = let f = known_as old some in both_written f.0 g (goes.goes f.0 g f.1 refl)
