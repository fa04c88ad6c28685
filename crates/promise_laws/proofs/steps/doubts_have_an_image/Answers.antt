use Rattle.promise_laws.proofs.DoubtImages.{image_in_doubt}
use Rattle.promise_laws.proofs.steps.doubts_have_an_image.Goals as goal

pub returns : goal.returns
returns c live disk some before bodies at reached session batch gate file stands later may =
    image_in_doubt live disk some before bodies at reached session batch gate file stands later may
