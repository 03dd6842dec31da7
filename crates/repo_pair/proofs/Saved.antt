-- Both members are written, the copy at a name that is made from the main one's.
use Rattle.std.proofs.Common.{◌≡◌, List, [], ◌∷◌, ◌++◌, Option, sym, ap, subst, ◌∙◌, append_assoc}
use Rattle.std.specs.Prelude.{false, codes}
use Rattle.base_devices.specs.Content.{Content, Name}
use Rattle.base_devices.specs.Moments.{View, is_unsynced}
use Rattle.base_devices.specs.Crash.{Crash, Ends, NowChanges, Write, FirstOf, AllOf}
use Rattle.base_disk.specs.Store.{LiesIn}
use Rattle.base_model.specs.Text.{Text, ◌⫽◌}
use Rattle.base_model.specs.Names.{copy_of}
use Rattle.base_model.specs.Create.{member_writes}
use Rattle.repo_pair.specs.Member.{IsMemberName}

-- a name that continues after a member's lies in the same folder
lies_on : (name more given : Text) (is : IsMemberName name) → given ≡ name ++ more → LiesIn is.folder given
lies_on name more given is ends = (is.last ++ more, ends ∙ (ap (λ (n : Text). n ++ more) is.is ∙ append_assoc is.folder (47 ∷ is.last) more))

lies : (name : Text) (is : IsMemberName name) → LiesIn is.folder name
lies name is = (is.last, is.is)

-- both lie in the member's folder
pub main_folder : (name more temporary : Text) → IsMemberName name → temporary ≡ name ++ more → (folder : Name) × LiesIn folder temporary × LiesIn folder name
main_folder name more temporary is made = (is.folder, lies_on name more temporary is made, lies name is)

pub copy_folder : (name more temporary copy : Text) → IsMemberName name → temporary ≡ name ++ more → copy ≡ copy_of name → (folder : Name) × LiesIn folder temporary × LiesIn folder copy
copy_folder name more temporary copy is made same = (is.folder, lies_on name more temporary is made, lies_on name (codes ".copy") copy is same)

module _ (name text given : Text) (is : given ≡ copy_of name) where
  abbrev writes : Text → List Write
  writes copy = (name, text) ∷ (copy, text) ∷ []

  pub saved_crash : (a b : View) → (is_unsynced a name ≡ false → is_unsynced a given ≡ false → Crash (FirstOf (writes given)) a b) → is_unsynced a name ≡ false → is_unsynced a (copy_of name) ≡ false → Crash (FirstOf (member_writes name text)) a b
  saved_crash a b p main copy = subst (λ (n : Text). Crash (FirstOf (writes n)) a b) is (p main (subst (λ (n : Text). is_unsynced a n ≡ false) (sym is) copy))

  pub saved_whole : (a b : View) → (is_unsynced a name ≡ false → is_unsynced a given ≡ false → Ends (AllOf (writes given)) a b) → is_unsynced a name ≡ false → is_unsynced a (copy_of name) ≡ false → Ends (AllOf (member_writes name text)) a b
  saved_whole a b p main copy = subst (λ (n : Text). Ends (AllOf (writes n)) a b) is (p main (subst (λ (n : Text). is_unsynced a n ≡ false) (sym is) copy))

  pub saved_part : (a b : Option Content) → NowChanges (FirstOf (writes given)) a b → NowChanges (FirstOf (member_writes name text)) a b
  saved_part a b p = subst (λ (n : Text). NowChanges (FirstOf (writes n)) a b) is p

  pub saved_now : (a b : Option Content) → NowChanges (AllOf (writes given)) a b → NowChanges (AllOf (member_writes name text)) a b
  saved_now a b p = subst (λ (n : Text). NowChanges (AllOf (writes n)) a b) is p
