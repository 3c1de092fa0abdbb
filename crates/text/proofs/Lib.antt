pub mod PlaceLaws
pub mod ParseLaws
pub mod RenderLaws
