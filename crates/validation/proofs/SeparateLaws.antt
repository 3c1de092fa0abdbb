-- A separate validation tells the input whose refusal it answers, and neither once both were read.
use Rattle.std.specs.Prelude.{ℕ, List, refl}
use Rattle.model.specs.Types.{Ty}
use Rattle.format.specs.Records.{write_ty}
use Rattle.format.specs.Outcome.{Outcome, accepted, refused, mapped, both, refusal_of, lone, Delivery, delivery, deliver}
use Rattle.validation.specs.Separate.{neither, being_read, separate, separately}
use Rattle.validation.proofs.Claims.{TellsOwn}

neither-own : (a b : Ty) (d : Delivery) → TellsOwn (accepted a) (accepted b) (separate d neither)
neither-own a b (delivery o buffer) = (record { value = b; is = refl }, record { value = a; is = refl })

own : (g : Ty → Ty → Outcome (List ℕ)) (x y : Outcome Ty) (buffer : List ℕ) → TellsOwn x y (separate (deliver (both g x y) buffer) (being_read (refusal_of x y)))
unfolding deliver
own g (refused k p) y buffer = (record { number = k; place = p; input = refl; answer = refl }, tt)
own g (accepted a) (refused k p) buffer = (record { number = k; place = p; input = refl; answer = refl }, record { value = a; is = refl })
own g (accepted a) (accepted b) buffer = neither-own a b (deliver (g a b) buffer)

pub tells_own : (f : Ty → Ty → Outcome Ty) (s t buffer : List ℕ) → TellsOwn (lone s) (lone t) (separately f s t buffer)
tells_own f s t buffer = own (λ a b. mapped write_ty (f a b)) (lone s) (lone t) buffer
