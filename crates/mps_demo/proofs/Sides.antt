-- The sides of the image.
use Rattle.std.proofs.Common.{◌≡◌, refl, List}
use Rattle.mps_demo.specs.Image.{image_of, image_sides}
use Rattle.mps_demo.specs.declared.channels.Channel.{Channel}

pub wide : image_sides.nx ≡ 250
unfolding image_sides
wide = refl

pub sides_of_image : (channels : List Channel) → (image_of channels).sides ≡ image_sides
unfolding image_of
sides_of_image channels = refl
