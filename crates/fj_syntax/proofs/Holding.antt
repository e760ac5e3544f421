-- What an option holds, if it holds something.
use Rattle.std.proofs.Common.{◌≡◌, Bool, true, false, cond, Option, Some, None, refl, subst}
use Rattle.std.specs.Prelude.{option_map}
use Rattle.fj_syntax.specs.Reading.{◌>>=◌}

pub bound : {A B : Type 0} (o : Option A) (f : A → Option B) (y : B) → (o >>= f) ≡ Some y → (x : A) × (o ≡ Some x) × (f x ≡ Some y)
bound None f y h = cc
bound (Some x) f y h = (x, refl, h)

pub some_is : {A : Type 0} (x y : A) → Some x ≡ Some y → x ≡ y
some_is x y h = cc

-- where it is some, the test passed
pub passed : {A : Type 0} (b : Bool) (o : Option A) (y : A) → cond b o None ≡ Some y → (b ≡ true) × (o ≡ Some y)
passed true o y h = (refl, h)
passed false o y h = cc

pub mapped : {A B : Type 0} (f : A → B) (o : Option A) (x : B) → option_map f o ≡ Some x → (y : A) × (o ≡ Some y) × (x ≡ f y)
mapped f None x h = cc
mapped f (Some y) x h = (y, refl, cc)

pub none_and_some : {A : Type 0} (o : Option A) (x : A) → o ≡ None → o ≡ Some x → ⊥
none_and_some o x h k = cc

abbrev pub Holds : {A : Type 0} → (A → Type 0) → Option A → Type 0
Holds P None = Unit {0}
Holds P (Some x) = P x

pub held : {A : Type 0} (P : A → Type 0) (o : Option A) (x : A) → Holds P o → o ≡ Some x → P x
held P None x h e = cc
held P (Some y) x h e = subst P (some_is y x e) h

-- either side of a choice
pub either_holds : {A : Type 0} (P : A → Type 0) (b : Bool) (o r : Option A) → (b ≡ true → Holds P o) → (b ≡ false → Holds P r) → Holds P (cond b o r)
either_holds P true o r f g = f refl
either_holds P false o r f g = g refl

pub where_holds : {A : Type 0} (P : A → Type 0) (b : Bool) (o : Option A) → Holds P o → Holds P (cond b o None)
where_holds P b o h = either_holds P b o None (λ e. h) (λ e. tt)

pub map_holds : {A B : Type 0} (P : A → Type 0) (Q : B → Type 0) (f : A → B) (o : Option A) → Holds P o → ((x : A) → P x → Q (f x)) → Holds Q (option_map f o)
map_holds P Q f None h g = tt
map_holds P Q f (Some x) h g = g x h

pub then_holds : {A B : Type 0} (P : A → Type 0) (Q : B → Type 0) (o : Option A) (f : A → Option B) → Holds P o → ((x : A) → P x → Holds Q (f x)) → Holds Q (o >>= f)
then_holds P Q None f h g = tt
then_holds P Q (Some x) f h g = g x h

-- whatever was read before
pub then_any : {A B : Type 0} (Q : B → Type 0) (o : Option A) (f : A → Option B) → ((x : A) → Holds Q (f x)) → Holds Q (o >>= f)
then_any Q None f g = tt
then_any Q (Some x) f g = g x
